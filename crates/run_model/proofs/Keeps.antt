-- What a part of the run over rows leaves of the rows: of a call at row n, those above n stay as they are but for marks
-- that come; of steps of the call of row c, the same, and of row c the place of the child and the run's set may change
-- too. Scaffolding: no definition of document 01.
--
-- Plan: rows that differ in little, by an equation of what is left when the fields that may differ are forgotten;
-- tables that keep such rows from a row on; results that have a property unless they are limits, and runners. The
-- functions of the model are in KeepsCalls, KeepsBinders and KeepsRun.
use Rattle.std.specs.Prelude.{◌≡◌, refl, Bool, true, false, List, [], ◌∷◌, ℕ, zero, suc, ◌<◌, ◌≤◌, set, length}
use Rattle.std.proofs.Common.{ap, ◌∙◌, arith, length-set, get_or-set_same, get_or-set_other}
use Rattle.std.specs.Prelude.{Option, None, Some}
use Rattle.book.specs.Book.{Book}
use Rattle.semantics.specs.Tokens.{when}
use Rattle.semantics.specs.Steps.{Token, Taken, After, goes, halts, Todo}
use Rattle.semantics.specs.Cells.{Cell}
use Rattle.semantics.specs.Run.{Result, met, ok, ◌>>=◌, State, Made, spend}
use Rattle.run_model.specs.Rows.{Row, row, was_asked, no_row, row_of, on_row, RowGovernor, minimum, same_start}
use Rattle.run_model.specs.Model.{RowState, row_state, Outcome, RowMade, row_made, RowRunner, unmarked, makes}
use Rattle.run_model.specs.Model.{spend_rows, nested_rows}

-- ---- Rows that differ in little
abbrev pub less_mark : Row → Row
less_mark r =
    row r.live r.nonterminal r.binder r.start r.level r.associativity r.child 0 r.kind
    r.place r.size r.set r.run

abbrev pub less_run : Row → Row
less_run r =
    row r.live r.nonterminal r.binder r.start r.level r.associativity 0 0 r.kind r.place
    r.size r.set []

abbrev pub less_variant : Row → Row
less_variant r =
    row r.live r.nonterminal r.binder r.start 0 0 0 0 r.kind r.place r.size r.set []

-- in the mark at most
abbrev pub Same : Row → Row → Type 0
Same r s = less_mark s ≡ less_mark r

-- in the child's place, the mark and the run's set at most
abbrev pub Own : Row → Row → Type 0
Own r s = less_run s ≡ less_run r

-- in these and the variant at most
abbrev pub Core : Row → Row → Type 0
Core r s = less_variant s ≡ less_variant r

-- ---- A row put in its place
pub row_put : (T : List Row) (c : ℕ) (r : Row) → c < length T → row_of (set T c r) c ≡ r
row_put T c r h = get_or-set_same T c r no_row h

pub row_else : (T : List Row) (c j : ℕ) (r : Row) → (j ≡ c → ⊥) → row_of (set T c r) j ≡ row_of T j
row_else T c j r h = get_or-set_other T c j r no_row h

pub mark_put : (T : List Row) (g j : ℕ) → Same (row_of T j) (row_of (on_row T g was_asked) j)
mark_put [] g j = refl
mark_put (r ∷ T) zero zero = refl
mark_put (r ∷ T) zero (suc j) = refl
mark_put (r ∷ T) (suc g) zero = refl
mark_put (r ∷ T) (suc g) (suc j) = mark_put T g j

-- ---- Tables
-- from row n on only marks come
pub record Keeps (n : ℕ) (T U : List Row) : Type 0 where
  pub at : (j : ℕ) → n ≤ j → Same (row_of T j) (row_of U j)
  pub size : length U ≡ length T

-- the same, but for row c, whose child's place and run's set may change too
pub record KeepsAt (c n : ℕ) (T U : List Row) : Type 0 where
  pub other : (j : ℕ) → n ≤ j → (j ≡ c → ⊥) → Same (row_of T j) (row_of U j)
  pub mine : Own (row_of T c) (row_of U c)
  pub size : length U ≡ length T

-- what the variants of the call of row n leave
pub record KeepsRun (n : ℕ) (T U : List Row) : Type 0 where
  pub above : Keeps (suc n) T U
  pub core : Core (row_of T n) (row_of U n)

-- what a call at row n leaves: its row is live no longer
pub record Called (n : ℕ) (T U : List Row) : Type 0 where
  pub above : Keeps (suc n) T U
  pub shut : (row_of U n).live ≡ 0

pub keeps_refl : {n : ℕ} {T : List Row} → Keeps n T T
keeps_refl = record { at = λ j h. refl; size = refl }

pub keeps_then : {n : ℕ} {T U W : List Row} → Keeps n T U → Keeps n U W → Keeps n T W
keeps_then a b = record { at = λ j h. b.at j h ∙ a.at j h; size = b.size ∙ a.size }

pub keeps_put : (n : ℕ) (T : List Row) (r : Row) → Keeps (suc n) T (set T n r)
keeps_put n T r = record { at = λ j h. ap less_mark (row_else T n j r (λ e. omega arith)); size = length-set T n r }

pub keeps_mark : (n g : ℕ) (T : List Row) → Keeps n T (on_row T g was_asked)
keeps_mark n g T = record { at = λ j h. mark_put T g j; size = length-set T g (was_asked (row_of T g)) }

pub at_refl : {c n : ℕ} {T : List Row} → KeepsAt c n T T
at_refl = record { other = λ j h k. refl; mine = refl; size = refl }

pub at_then : {c n : ℕ} {T U W : List Row} → KeepsAt c n T U → KeepsAt c n U W → KeepsAt c n T W
at_then a b =
    record { other = λ j h k. b.other j h k ∙ a.other j h k; mine = b.mine ∙ a.mine; size = b.size ∙ a.size }

pub at_put : (c n : ℕ) (T : List Row) (r : Row) → c < length T → Own (row_of T c) r → KeepsAt c n T (set T c r)
at_put c n T r h o = record {
  other = λ j l k. ap less_mark (row_else T c j r k);
  mine = ap less_run (row_put T c r h) ∙ o;
  size = length-set T c r;
}

-- a row below is put
pub at_below : (c n : ℕ) (T : List Row) (r : Row) → n < c → KeepsAt c (suc n) T (set T n r)
at_below c n T r h = record {
  other = λ j l k. ap less_mark (row_else T n j r (λ e. omega arith));
  mine = ap less_run (row_else T n c r (λ e. omega arith));
  size = length-set T n r;
}

pub at_of : {c n : ℕ} {T U : List Row} → n ≤ c → Keeps n T U → KeepsAt c n T U
at_of {c} h a = record { other = λ j l k. a.at j l; mine = ap less_run (a.at c h); size = a.size }

pub at_less : {c m n : ℕ} {T U : List Row} → m ≤ n → KeepsAt c m T U → KeepsAt c n T U
at_less h a = record { other = λ j l k. a.other j (omega arith) k; mine = a.mine; size = a.size }

pub run_refl : {n : ℕ} {T : List Row} → KeepsRun n T T
run_refl = record { above = keeps_refl; core = refl }

pub run_then : {n : ℕ} {T U W : List Row} → KeepsRun n T U → KeepsRun n U W → KeepsRun n T W
run_then a b = record { above = keeps_then a.above b.above; core = b.core ∙ a.core }

pub run_put : (n : ℕ) (T : List Row) (r : Row) → n < length T → Core (row_of T n) r → KeepsRun n T (set T n r)
run_put n T r h o = record { above = keeps_put n T r; core = ap less_variant (row_put T n r h) ∙ o }

-- a variant of the call of row n
pub run_of : {n : ℕ} {T U : List Row} → KeepsAt n n T U → KeepsRun n T U
run_of a = record {
  above = record { at = λ j h. a.other j (omega arith) (λ e. omega arith); size = a.size };
  core = ap less_variant a.mine;
}

-- the last thing that a call does
pub called_put : (n : ℕ) (T U : List Row) (r : Row) → n < length U → Keeps (suc n) T U →
    r.live ≡ 0 → Called n T (set U n r)
called_put n T U r h k e =
    record { above = keeps_then k (keeps_put n U r); shut = ap (λ r. r.live) (row_put U n r h) ∙ e }

pub called_then : {n : ℕ} {T U W : List Row} → Keeps (suc n) T U → Called n U W → Called n T W
called_then a b = record { above = keeps_then a b.above; shut = b.shut }

-- ---- Results
unfoldable pub On : {A : Type 0} → (A → Type 0) → Result A → Type 0
On Q (met number units) = Unit {0}
On Q (ok x) = Q x

pub on_met : {A : Type 0} (Q : A → Type 0) (number units : ℕ) → On Q (met number units)
unfolding On
on_met Q number units = tt

pub on_ok : {A : Type 0} (Q : A → Type 0) {x : A} → Q x → On Q (ok x)
unfolding On
on_ok Q h = h

pub on_bind : {A B : Type 0} (Q : A → Type 0) (R : B → Type 0) (y : Result A) (K : A → Result B) → On Q y →
    ((x : A) → Q x → On R (K x)) → On R (y >>= K)
unfolding ◌>>=◌ On
on_bind Q R (met number units) K h k = tt
on_bind Q R (ok x) K h k = k x h

pub on_map : {A : Type 0} (Q R : A → Type 0) (y : Result A) → On Q y → ((x : A) → Q x → R x) → On R y
unfolding On
on_map Q R (met number units) h k = tt
on_map Q R (ok x) h k = k x h

-- two parts one after the other, where nothing is known of the first
pub on_any : {A B : Type 0} (R : B → Type 0) (y : Result A) (K : A → Result B) → ((x : A) → On R (K x)) → On R (y >>= K)
unfolding ◌>>=◌ On
on_any R (met number units) K k = tt
on_any R (ok x) K k = k x

pub on_when : {A : Type 0} (Q : A → Type 0) (b : Bool) (f g : Unit {0} → Result A) → On Q (f tt) →
    On Q (g tt) → On Q (when b f g)
on_when Q true f g h k = h
on_when Q false f g h k = k

pub on_option : {A X : Type 0} (Q : A → Type 0) (o : Option X) (y : Result A) (f : X → Result A) → On Q y →
    ((x : X) → On Q (f x)) → On Q (elim o [ None ↦ y | Some x ↦ f x ])
on_option Q None y f h k = h
on_option Q (Some x) y f h k = k x

pub on_list : {A X : Type 0} (Q : A → Type 0) (l : List X) (y : Result A) (f : X → List X → Result A) → On Q y →
    ((x : X) (l : List X) → On Q (f x l)) → On Q (elim l [ [] ↦ y | x ∷ l ↦ f x l ])
on_list Q [] y f h k = h
on_list Q (x ∷ l) y f h k = k x l

pub on_after : {A : Type 0} (Q : A → Type 0) (a : After) (f g : ℕ → Result A) → ((y : ℕ) → On Q (f y)) →
    ((y : ℕ) → On Q (g y)) → On Q (elim a [ goes y ↦ f y | halts y ↦ g y ])
on_after Q (goes y) f g h k = h y
on_after Q (halts y) f g h k = k y

pub on_governor : {A : Type 0} (Q : A → Type 0) (g : RowGovernor) (f h : ℕ → Result A) → ((m : ℕ) → On Q (f m)) →
    ((r : ℕ) → On Q (h r)) → On Q (elim g [ minimum m ↦ f m | same_start r ↦ h r ])
on_governor Q (minimum m) f h a b = a m
on_governor Q (same_start r) f h a b = b r

pub on_taken : {A : Type 0} (Q : A → Type 0) (k : Taken) (a : Result A) (b : Token → Result A) (c d : ℕ → Result A)
    (e : Bool → ℕ → Option ℕ → ℕ → Result A) (f : ℕ → Result A) (g : ℕ → ℕ → ℕ → Result A) (h : ℕ → Result A) →
    On Q a → ((t : Token) → On Q (b t)) → ((M : ℕ) → On Q (c M)) → ((M : ℕ) → On Q (d M)) →
    ((comma : Bool) (M : ℕ) (close : Option ℕ) (y : ℕ) → On Q (e comma M close y)) → ((y : ℕ) → On Q (f y)) →
    ((close M y : ℕ) → On Q (g close M y)) → ((M : ℕ) → On Q (h M)) →
    On Q (elim k [
      | Taken.nothing ↦ a
      | Taken.token t ↦ b t
      | Taken.child M ↦ c M
      | Taken.optional M ↦ d M
      | Taken.list comma M close y ↦ e comma M close y
      | Taken.unopened y ↦ f y
      | Taken.names close M y ↦ g close M y
      | Taken.body M ↦ h M
    ])
on_taken Q Taken.nothing a b c d e f g h ha hb hc hd he hf hg hh = ha
on_taken Q (Taken.token t) a b c d e f g h ha hb hc hd he hf hg hh = hb t
on_taken Q (Taken.child M) a b c d e f g h ha hb hc hd he hf hg hh = hc M
on_taken Q (Taken.optional M) a b c d e f g h ha hb hc hd he hf hg hh = hd M
on_taken Q (Taken.list comma M close y) a b c d e f g h ha hb hc hd he hf hg hh = he comma M close y
on_taken Q (Taken.unopened y) a b c d e f g h ha hb hc hd he hf hg hh = hf y
on_taken Q (Taken.names close M y) a b c d e f g h ha hb hc hd he hf hg hh = hg close M y
on_taken Q (Taken.body M) a b c d e f g h ha hb hc hd he hf hg hh = hh M

-- cells are made, and units spent: the rows stay
pub on_makes : {A : Type 0} (Q : A → Type 0) (f : State → Result Made) (s : RowState) (K : RowMade → Result A) →
    ((cell units : ℕ) (cells : List Cell) → On Q (K (row_made cell (row_state units cells s.rows)))) →
    On Q (makes f s >>= K)
unfolding makes ◌>>=◌ On
on_makes Q f s K h = go (f (unmarked s))
  where
    go : (y : Result Made) →
        On Q ((y >>= (λ m. ok (row_made m.cell (row_state m.state.units m.state.cells s.rows)))) >>= K)
    go (met number units) = tt
    go (ok m) = h m.cell m.state.units m.state.cells

pub on_spend : {A : Type 0} (Q : A → Type 0) (s : RowState) (K : RowState → Result A) →
    ((units : ℕ) (cells : List Cell) → On Q (K (row_state units cells s.rows))) → On Q (spend_rows s >>= K)
unfolding spend_rows ◌>>=◌ On
on_spend Q s K h = go (spend (unmarked s))
  where
    go : (y : Result State) → On Q ((y >>= (λ t. ok (row_state t.units t.cells s.rows))) >>= K)
    go (met number units) = tt
    go (ok t) = h t.units t.cells

abbrev pub Beside : ℕ → ℕ → List Row → Outcome → Type 0
Beside c n T o = KeepsAt c n T o.state.rows

abbrev pub Ran : ℕ → List Row → Outcome → Type 0
Ran n T o = KeepsRun n T o.state.rows

abbrev pub Calls : ℕ → List Row → Outcome → Type 0
Calls n T o = Called n T o.state.rows

-- ---- Runners
-- the call of row c runs with row n free
pub record Fits (c n : ℕ) (T : List Row) : Type 0 where
  pub below : n < c
  pub within : c ≤ 200
  pub size : length T ≡ 201

-- a runner with row m free keeps what it should
pub record Keeping (m : ℕ) (S : RowRunner) : Type 0 where
  pub of : (c j : ℕ) (todo : List (Todo ℕ)) (x items : ℕ) (s : RowState) → Fits c m s.rows →
      On (Beside c (suc m) s.rows) (S c j todo x items s)

-- with n levels left there is none, or one with row n - 1 free
pub data Inner : ℕ → Option RowRunner → Type 0 where
  last : (n : ℕ) → Inner n None
  more : (m : ℕ) (S : RowRunner) → Keeping m S → Inner (suc m) (Some S)

pub on_nested : (Q : Outcome → Type 0) (book : Book) (text : List ℕ) (n : ℕ) (inner : Option RowRunner) →
    Inner n inner → (s : RowState) (f : RowRunner → Result Outcome) →
    ((m : ℕ) (S : RowRunner) → n ≡ suc m → Keeping m S → On Q (f S)) → On Q (nested_rows book text inner n s f)
unfolding nested_rows On
on_nested Q book text n inner (last k) s f h = tt
on_nested Q book text n inner (more m S keeping) s f h = h m S refl keeping
