-- That the run over the rows gives what the definition of the run gives: the parts. Scaffolding: no definition of
-- document 01.
--
-- Plan: `see` turns a result over rows into one of the definition, given what is seen of an outcome; a combinator for
-- each way of going on (one part after another, a test, an option, a list, cells made, a unit spent, one level further
-- in); functions of the definition that don't look at the marks (`Plain`); and what is seen of the rows: while the call
-- of row c runs, at its end, and after a call at row n.
use Rattle.std.specs.Prelude.{◌≡◌, refl, Bool, true, false, List, [], ◌∷◌, ℕ, suc, ◌-◌, ◌<◌, ◌≤◌, ltb, eqb, length}
use Rattle.std.proofs.Common.{ap, ◌∙◌, arith, eqb-true}
use Rattle.std.specs.Prelude.{Option, None, Some}
use Rattle.std.proofs.lemmas.Bool.{eqb-false}
use Rattle.characters.specs.Cases.{by_test}
use Rattle.book.specs.Book.{Book, nth_variant, associativity_number}
use Rattle.semantics.specs.Uses.{scope_of}
use Rattle.semantics.specs.Tokens.{Item, when}
use Rattle.semantics.specs.Steps.{Token, Taken, After, goes, halts, Todo}
use Rattle.semantics.specs.Cells.{Cell, find_cell}
use Rattle.semantics.specs.Run.{Result, met, ok, ◌>>=◌, State, Parsed, parsed, Made, made, Call, Runner, spend}
use Rattle.semantics.specs.Run.{make, item_cell, begin, with_cell, with_token, nested}
use Rattle.run_model.specs.Rows.{Row, row_of, asked_at, marks_of, call_of, scope_in}
use Rattle.run_model.specs.Model.{RowState, row_state, Outcome, RowMade, row_made, RowRunner, unmarked, makes}
use Rattle.run_model.specs.Model.{spend_rows, cell_of_value, nested_rows}
use Rattle.run_model.proofs.Keeps.{less_variant, Keeps, KeepsAt, KeepsRun, On, Keeping, Inner}
use Rattle.run_model.proofs.Named.{NamesIn}
use Rattle.run_model.proofs.Views.{sets_keeps, path_keeps, scope_keeps}

abbrev pub state_of : ℕ → List Cell → List Bool → State
state_of units cells asked = record { units = units; cells = cells; asked = asked }

-- ---- Results
unfoldable pub see : {A B : Type 0} → (A → B) → Result A → Result B
see f (met number units) = met number units
see f (ok x) = ok (f x)

-- two parts one after the other, where the first is as seen
pub then_see : {A B C D : Type 0} (f : A → B) (g : C → D) (Q : A → Type 0) (Y : Result B) (y : Result A)
    (L : B → Result D) (K : A → Result C) →
    Y ≡ see f y → On Q y → ((x : A) → Q x → L (f x) ≡ see g (K x)) → (Y >>= L) ≡ see g (y >>= K)
unfolding ◌>>=◌ see On
then_see f g Q Y (met number units) L K e h k = rw e refl
then_see f g Q Y (ok x) L K e h k = rw e (k x h)

-- the definition ends with one more thing
pub last_see : {A B D : Type 0} (f : A → B) (g : A → D) (Y : Result B) (y : Result A) (L : B → Result D) → Y ≡ see f y →
    ((x : A) → L (f x) ≡ ok (g x)) → (Y >>= L) ≡ see g y
unfolding ◌>>=◌ see
last_see f g Y (met number units) L e k = rw e refl
last_see f g Y (ok x) L e k = rw e (k x)

-- the same first part
pub same_see : {A C D : Type 0} (g : C → D) (y : Result A) (L : A → Result D) (K : A → Result C) →
    ((x : A) → L x ≡ see g (K x)) → (y >>= L) ≡ see g (y >>= K)
unfolding ◌>>=◌ see
same_see g (met number units) L K k = refl
same_see g (ok x) L K k = k x

pub when_see : {A B : Type 0} (g : A → B) (b : Bool) (F H : Unit {0} → Result B) (f h : Unit {0} → Result A) →
    (b ≡ true → F tt ≡ see g (f tt)) → (b ≡ false → H tt ≡ see g (h tt)) → when b F H ≡ see g (when b f h)
when_see g true F H f h p q = p refl
when_see g false F H f h p q = q refl

pub option_see :
    {A B X : Type 0} (g : A → B) (o : Option X) (Y : Result B) (F : X → Result B) (y : Result A) (f : X → Result A) →
    (o ≡ None → Y ≡ see g y) → ((x : X) → o ≡ Some x → F x ≡ see g (f x)) →
    elim o [ None ↦ Y | Some x ↦ F x ] ≡ see g (elim o [ None ↦ y | Some x ↦ f x ])
option_see g None Y F y f p q = p refl
option_see g (Some x) Y F y f p q = q x refl

pub list_see : {A B X : Type 0} (g : A → B) (l : List X) (Y : Result B) (F : X → List X → Result B) (y : Result A)
    (f : X → List X → Result A) → (l ≡ [] → Y ≡ see g y) → ((x : X) (k : List X) → l ≡ x ∷ k → F x k ≡ see g (f x k)) →
    elim l [ [] ↦ Y | x ∷ k ↦ F x k ] ≡ see g (elim l [ [] ↦ y | x ∷ k ↦ f x k ])
list_see g [] Y F y f p q = p refl
list_see g (x ∷ k) Y F y f p q = q x k refl

pub after_see : {A B : Type 0} (g : A → B) (a : After) (F H : ℕ → Result B) (f h : ℕ → Result A) →
    ((y : ℕ) → F y ≡ see g (f y)) → ((y : ℕ) → H y ≡ see g (h y)) →
    elim a [ goes y ↦ F y | halts y ↦ H y ] ≡ see g (elim a [ goes y ↦ f y | halts y ↦ h y ])
after_see g (goes y) F H f h p q = p y
after_see g (halts y) F H f h p q = q y

pub taken_see : {A B : Type 0} (g : A → B) (k : Taken) (a : Result B) (b : Token → Result B) (c d : ℕ → Result B)
    (e : Bool → ℕ → Option ℕ → ℕ → Result B) (f : ℕ → Result B) (n : ℕ → ℕ → ℕ → Result B) (o : ℕ → Result B)
    (a' : Result A) (b' : Token → Result A) (c' d' : ℕ → Result A) (e' : Bool → ℕ → Option ℕ → ℕ → Result A)
    (f' : ℕ → Result A) (n' : ℕ → ℕ → ℕ → Result A) (o' : ℕ → Result A) →
    a ≡ see g a' → ((t : Token) → b t ≡ see g (b' t)) → ((M : ℕ) → c M ≡ see g (c' M)) →
    ((M : ℕ) → d M ≡ see g (d' M)) →
    ((comma : Bool) (M : ℕ) (close : Option ℕ) (y : ℕ) → e comma M close y ≡ see g (e' comma M close y)) →
    ((y : ℕ) → f y ≡ see g (f' y)) → ((close M y : ℕ) → n close M y ≡ see g (n' close M y)) →
    ((M : ℕ) → o M ≡ see g (o' M)) →
    elim k [
      | Taken.nothing ↦ a
      | Taken.token t ↦ b t
      | Taken.child M ↦ c M
      | Taken.optional M ↦ d M
      | Taken.list comma M close y ↦ e comma M close y
      | Taken.unopened y ↦ f y
      | Taken.names close M y ↦ n close M y
      | Taken.body M ↦ o M
    ]
    ≡ see g (elim k [
      | Taken.nothing ↦ a'
      | Taken.token t ↦ b' t
      | Taken.child M ↦ c' M
      | Taken.optional M ↦ d' M
      | Taken.list comma M close y ↦ e' comma M close y
      | Taken.unopened y ↦ f' y
      | Taken.names close M y ↦ n' close M y
      | Taken.body M ↦ o' M
    ])
taken_see g Taken.nothing a b c d e f n o a' b' c' d' e' f' n' o' ha hb hc hd he hf hn ho = ha
taken_see g (Taken.token t) a b c d e f n o a' b' c' d' e' f' n' o' ha hb hc hd he hf hn ho = hb t
taken_see g (Taken.child M) a b c d e f n o a' b' c' d' e' f' n' o' ha hb hc hd he hf hn ho = hc M
taken_see g (Taken.optional M) a b c d e f n o a' b' c' d' e' f' n' o' ha hb hc hd he hf hn ho = hd M
taken_see g (Taken.list comma M close y) a b c d e f n o a' b' c' d' e' f' n' o' ha hb hc hd he hf hn ho =
    he comma M close y
taken_see g (Taken.unopened y) a b c d e f n o a' b' c' d' e' f' n' o' ha hb hc hd he hf hn ho = hf y
taken_see g (Taken.names close M y) a b c d e f n o a' b' c' d' e' f' n' o' ha hb hc hd he hf hn ho = hn close M y
taken_see g (Taken.body M) a b c d e f n o a' b' c' d' e' f' n' o' ha hb hc hd he hf hn ho = ho M

-- ---- Functions that don't look at the marks
pub record Plain (f : State → Result Made) : Type 0 where
  pub of : (units : ℕ) (cells : List Cell) (A B : List Bool) →
      f (state_of units cells A)
      ≡ (f (state_of units cells B) >>= (λ m. ok (made m.cell (state_of m.state.units m.state.cells A))))

pub plain_ok : (cell : ℕ) → Plain (λ s. ok (made cell s))
unfolding ◌>>=◌
plain_ok cell = record { of = λ units cells A B. refl }

pub plain_make : (text : List ℕ) (c : Cell) → Plain (make text c)
unfolding make ◌>>=◌
plain_make text c = record {
  of = λ units cells A B. by_test (eqb (find_cell text c 1 cells) 0)
      (λ e. by_test (ltb (length cells) 4096) (λ f. rw (e, f)) (λ f. rw (e, f)))
      (λ e. rw e);
}

plain_when : (b : Bool) (f g : State → Result Made) → Plain f → Plain g → Plain (λ s. when b (λ _. f s) (λ _. g s))
plain_when true f g p q = p
plain_when false f g p q = q

plain_then : (f : State → Result Made) (g : ℕ → State → Result Made) → Plain f → ((cell : ℕ) → Plain (g cell)) →
    Plain (λ s. f s >>= (λ m. g m.cell m.state))
unfolding ◌>>=◌
plain_then f g p q = record { of = λ units cells A B. rw (p.of units cells A B) (go A (f (state_of units cells B))) }
  where
    go : (A : List Bool) (y : Result Made) →
        ((y >>= (λ m. ok (made m.cell (state_of m.state.units m.state.cells A))))
        >>= (λ m. g m.cell m.state))
        ≡ ((y >>= (λ m. g m.cell m.state))
        >>= (λ m. ok (made m.cell (state_of m.state.units m.state.cells A))))
    go A (met number units) = refl
    go A (ok m) = (q m.cell).of m.state.units m.state.cells A m.state.asked

module _ (book : Book) (text : List ℕ) where
  pub plain_begin : (j : ℕ) → Plain (begin book text j)
  unfolding begin
  plain_begin j = plain_when (nth_variant book j).passing _ _ (plain_ok 0) (plain_make text Cell.empty)

  pub plain_value : (j items : ℕ) → Plain (cell_of_value book text j items)
  unfolding cell_of_value
  plain_value j items =
      plain_when (nth_variant book j).passing _ _ (plain_ok items) (plain_make text (Cell.variant j items))

  pub plain_with : (j items item : ℕ) → Plain (with_cell book text j items item)
  unfolding with_cell
  plain_with j items item =
      plain_when (nth_variant book j).passing _ _ (plain_ok item) (plain_make text (Cell.chain items item))

  pub plain_token : (j items : ℕ) (item : Option Item) → Plain (with_token book text j items item)
  unfolding with_token
  plain_token j items None = plain_ok items
  plain_token j items (Some item) =
      plain_then _ (λ cell s. with_cell book text j items cell s) (plain_make text (item_cell item))
      (λ cell. plain_with j items cell)

pub makes_see : {A B : Type 0} (g : A → B) (f : State → Result Made) → Plain f →
    (s : RowState) (asked : List Bool) (L : Made → Result B) (K : RowMade → Result A) →
    ((cell units : ℕ) (cells : List Cell) →
    L (made cell (state_of units cells asked)) ≡ see g (K (row_made cell (row_state units cells s.rows)))) →
    (f (state_of s.units s.cells asked) >>= L) ≡ see g (makes f s >>= K)
unfolding makes ◌>>=◌ see
makes_see g f p s asked L K h = rw (p.of s.units s.cells asked []) (go (f (unmarked s)))
  where
    go : (y : Result Made) →
        ((y >>= (λ m. ok (made m.cell (state_of m.state.units m.state.cells asked)))) >>= L)
        ≡ see g ((y >>= (λ m. ok (row_made m.cell (row_state m.state.units m.state.cells s.rows)))) >>= K)
    go (met number units) = refl
    go (ok m) = h m.cell m.state.units m.state.cells

pub spend_see :
    {A B : Type 0} (g : A → B) (s : RowState) (asked : List Bool) (L : State → Result B) (K : RowState → Result A) →
    ((units : ℕ) → L (state_of units s.cells asked) ≡ see g (K (row_state units s.cells s.rows))) →
    (spend (state_of s.units s.cells asked) >>= L) ≡ see g (spend_rows s >>= K)
unfolding spend_rows spend ◌>>=◌ see
spend_see g s asked L K h = by_test (ltb 0 s.units) (λ e. rw e (h (s.units - 1))) (λ e. rw e)

-- ---- What is seen of the rows
-- the state of the call of row c while it runs
abbrev pub state_at : ℕ → RowState → State
state_at c s = state_of s.units s.cells (asked_at (row_of s.rows c) ∷ marks_of s.rows c)

-- what its variants have found
abbrev pub ran_at : ℕ → Outcome → Parsed
ran_at c o = parsed (row_of o.state.rows c).run o.failure (state_at c o.state)

-- what it found, as it ends
abbrev pub end_at : ℕ → Outcome → Parsed
end_at c o = parsed (row_of o.state.rows c).set o.failure (state_at c o.state)

-- what a call at row n found, behind it
abbrev pub found_at : ℕ → Outcome → Parsed
found_at n o =
    parsed (row_of o.state.rows n).set o.failure
    (state_of o.state.units o.state.cells (marks_of o.state.rows n))

-- the call C of row c stands open
pub record Standing (text : List ℕ) (C : Call) (c : ℕ) (T : List Row) : Type 0 where
  pub live : (row_of T c).live ≡ 1
  pub call : call_of text T c ≡ C
  pub scope : scope_in text T c ≡ scope_of C.path
  pub size : length T ≡ 201

-- and runs variant j, while the rows from f on below it are not live
pub record Here (book : Book) (text : List ℕ) (C : Call) (c f j : ℕ) (T : List Row) : Type 0 where
  pub standing : Standing text C c T
  pub level : (row_of T c).level ≡ (nth_variant book j).level
  pub associativity : (row_of T c).associativity ≡ associativity_number (nth_variant book j).associativity
  pub idle : (i : ℕ) → f ≤ i → i < c → eqb (row_of T i).live 1 ≡ false
  pub below : f ≤ c
  pub within : c ≤ 200

-- the scope of row c's call, when rows above stay and the row its binder
pub scope_stays : (text : List ℕ) (c : ℕ) (T U : List Row) → Keeps (suc c) T U →
    (row_of U c).binder ≡ (row_of T c).binder → scope_in text U c ≡ scope_in text T c
scope_stays text c T U h e = rw e (scope_keeps text c T U h (row_of T c).binder)

pub standing_keeps : (text : List ℕ) (C : Call) (c : ℕ) (T U : List Row) → Standing text C c T →
    KeepsRun c T U → Standing text C c U
standing_keeps text C c T U h k =
    let n : (row_of U c).nonterminal ≡ (row_of T c).nonterminal = ap (λ r. r.nonterminal) k.core in
    let b : (row_of U c).binder ≡ (row_of T c).binder = ap (λ r. r.binder) k.core in
    let u : (row_of U c).start ≡ (row_of T c).start = ap (λ r. r.start) k.core in
    let m : (row_of U c).set ≡ (row_of T c).set = ap (λ r. r.set) k.core in
    let same : call_of text U c ≡ call_of text T c =
    rw (b, path_keeps text c T U k.above (row_of T c).binder, sets_keeps c T U k.above, n, u, m) in
    record {
      live = ap (λ r. r.live) k.core ∙ h.live;
      call = same ∙ h.call;
      scope = scope_stays text c T U k.above b ∙ h.scope;
      size = k.above.size ∙ h.size;
    }

pub here_keeps : (book : Book) (text : List ℕ) (C : Call) (c f j : ℕ) (T U : List Row) → Here book text C c f j T →
    KeepsAt c f T U → Here book text C c f j U
here_keeps book text C c f j T U h k =
    let run : KeepsRun c T U = record {
      above = record { at = λ i l. k.other i (omega (arith, h.below)) (λ e. omega arith); size = k.size };
      core = ap less_variant k.mine;
    } in
    record {
      standing = standing_keeps text C c T U h.standing run;
      level = ap (λ r. r.level) k.mine ∙ h.level;
      associativity = ap (λ r. r.associativity) k.mine ∙ h.associativity;
      idle = λ i a b. ap (λ r. eqb r.live 1) (k.other i a (λ e. omega arith)) ∙ h.idle i a b;
      below = h.below;
      within = h.within;
    }

-- the row below is live no longer
pub here_shut : (book : Book) (text : List ℕ) (C : Call) (c n j : ℕ) (T : List Row) → Here book text C c (suc n) j T →
    (row_of T n).live ≡ 0 → Here book text C c n j T
here_shut book text C c n j T h s = record {
  standing = h.standing;
  level = h.level;
  associativity = h.associativity;
  idle = λ i a b. by_test (eqb i n) (λ e. let f = eqb-true i n e in rw (f, s)) (λ e.
      let f = eqb-false i n e in h.idle i (omega (arith, f)) b);
  below = omega (arith, h.below);
  within = h.within;
}

-- ---- Runners
-- a runner over rows, with row m free, and one of the definition
pub record Alike (book : Book) (text : List ℕ) (m : ℕ) (S : RowRunner) (R : Runner) : Type 0 where
  pub of : (C : Call) (c j : ℕ) (todo : List (Todo ℕ)) (x items : ℕ) (s : RowState) →
      Here book text C c (suc m) j s.rows → NamesIn text s.rows m todo →
      R C j todo x items (row_of s.rows c).run (state_at c s) ≡ see (ran_at c) (S c j todo x items s)

-- with n levels left there are none, or two that are alike
pub data Kin (book : Book) (text : List ℕ) : ℕ → Option RowRunner → Option Runner → Type 0 where
  last : (n : ℕ) → Kin book text n None None
  more : (m : ℕ) (S : RowRunner) (R : Runner) → Keeping m S → Alike book text m S R →
      Kin book text (suc m) (Some S) (Some R)

pub kin_inner : (book : Book) (text : List ℕ) (n : ℕ) (inner : Option RowRunner) (innerA : Option Runner) →
    Kin book text n inner innerA → Inner n inner
kin_inner book text n inner innerA (last k) = Inner.last k
kin_inner book text n inner innerA (more m S R keeping alike) = Inner.more m S keeping

pub nested_see :
    (g : Outcome → Parsed) (book : Book) (text : List ℕ) (n : ℕ) (inner : Option RowRunner) (innerA : Option Runner) →
    Kin book text n inner innerA →
    (s : RowState) (asked : List Bool) (F : Runner → Result Parsed) (f : RowRunner → Result Outcome) →
    ((m : ℕ) (S : RowRunner) (R : Runner) → n ≡ suc m → Keeping m S → Alike book text m S R → F R ≡ see g (f S)) →
    nested book text innerA (state_of s.units s.cells asked) F ≡ see g (nested_rows book text inner n s f)
unfolding nested nested_rows see
nested_see g book text n inner innerA (last k) s asked F f h = refl
nested_see g book text n inner innerA (more m S R keeping alike) s asked F f h = h m S R refl keeping alike
