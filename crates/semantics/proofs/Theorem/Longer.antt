-- A run with more units. With d units more, a run that does not meet 20 goes the same way, and has d units more at its
-- end: it only ever asks whether a unit is left. So what is gone of the allowance is the same number, and an answer
-- other than 20 is the same answer under each larger allowance (`same_under_larger`).
--
-- The plan. Two runs side by side (SideBySide), of which the second has d units more in each state and all else is
-- equal. What they end with: the first has met 20, or both the same limit, or both have the same result (`Longer`).
use Rattle.std.specs.Prelude.{◌≡◌, false, ◌||◌, ℕ, ◌+◌, ◌-◌, ◌≤◌, leb, eqb, length, get_or}
use Rattle.std.proofs.Math.Path.{refl}
use Rattle.std.proofs.Common.{sym, ◌∙◌, ap, subst, arith}
use Rattle.std.proofs.Math.Bool.{true}
use mathlib.Core.List.{List, [], ◌∷◌}
use Rattle.std.specs.Prelude.{Option, None, Some}
use Rattle.std.proofs.Math.Dec.{ltb}
use borrow.Author.Tests.{ltb-true, lt-ltb, le-ltb, ne_eqb}
use Rattle.characters.specs.Cases.{by_test}
use Rattle.characters.specs.Skipping.{skip_from}
use Rattle.book.specs.Book.{Book}
use Rattle.book.specs.Check.{check_book, Outcome}
use Rattle.semantics.specs.Numbers.{cells_size, parses_size, most_units, longest_text, most_nesting, most_cells}
use Rattle.semantics.specs.Numbers.{no_unit}
use Rattle.semantics.specs.Numbers.{too_many_cells}
use Rattle.semantics.specs.Values.{Parse}
use Rattle.semantics.specs.Uses.{scope_of, governor}
use Rattle.semantics.specs.Tokens.{claimed}
use Rattle.semantics.specs.Cells.{Cell, find_cell}
use Rattle.semantics.specs.Errors.{Error}
use Rattle.semantics.specs.Run.{Result, met, ok, ◌>>=◌, State, Parsed, parsed, with_asked, ask, newest, others}
use Rattle.semantics.specs.Run.{spend, make, runner, run}
use Rattle.semantics.specs.Answer.{answer, cleared, at_end, on_book, answer_of, first_high, by_values, whole_values}
use Rattle.semantics.specs.Allowance.{SameUnderLarger}
use Rattle.semantics.proofs.Theorem.Results.{option_cases, governor_cases}
use Rattle.semantics.proofs.Theorem.SideBySide.Relations.{Kind, of_state, of_cell, of_set, Of, Seen, put, Good}
use Rattle.semantics.proofs.Theorem.SideBySide.Relations.{Known, Context, inside, behind_opening, Governed}
use Rattle.semantics.proofs.Theorem.SideBySide.Relations.{minimums, reentries, Laws, pair}
use Rattle.semantics.proofs.Theorem.SideBySide.Steps.{enter_alike, runner_alike}

-- every place will do
abbrev anywhere : ℕ → Type 0
anywhere x = Unit {0}

good_anywhere : (set : List (Parse ℕ)) → Good anywhere set
unfolding Good
good_anywhere [] = tt
good_anywhere (p ∷ ps) = (tt, good_anywhere ps)

abbrev with_units : State → ℕ → State
with_units s units = record { units = units; cells = s.cells; asked = s.asked }

module _ (d : ℕ) where
  abbrev with_more : State → State
  with_more s = with_units s (s.units + d)

  -- the first has met 20; both have met the same limit; or both have the same result
  data Longer (K : Kind) : Result (Of K) → Result (Of K) → Type 0 where
    gone : (w : ℕ) (m : Result (Of K)) → Longer K (met no_unit w) m
    limited : (n w : ℕ) → Longer K (met n w) (met n (w + d))
    both : (w : Seen K) (s : State) → Known anywhere K w → Longer K (ok (put K w s)) (ok (put K w (with_more s)))

  -- ---- The laws
  module _ (K : Kind) where
    then_longer : (J : Kind) (m₁ m₂ : Result (Of K)) (f₁ f₂ : Of K → Result (Of J)) → Longer K m₁ m₂ →
        ((w : Seen K) (s : State) → Known anywhere K w → Longer J (f₁ (put K w s)) (f₂ (put K w (with_more s)))) →
        Longer J (m₁ >>= f₁) (m₂ >>= f₂)
    unfolding ◌>>=◌
    then_longer J m₁ m₂ f₁ f₂ (gone w m) f = gone w (m >>= f₂)
    then_longer J m₁ m₂ f₁ f₂ (limited n w) f = limited n w
    then_longer J m₁ m₂ f₁ f₂ (both w s known) f = f w s known

    done_longer : (w : Seen K) (s₁ s₂ : State) → Known anywhere K w → s₂ ≡ with_more s₁ →
        Longer K (ok (put K w s₁)) (ok (put K w s₂))
    done_longer w s₁ s₂ known e =
        subst (λ (t : State). Longer K (ok (put K w s₁)) (ok (put K w t))) (sym e) (both w s₁ known)

    limit_longer : (n : ℕ) (s₁ s₂ : State) → s₂ ≡ with_more s₁ → Longer K (met n s₁.units) (met n s₂.units)
    limit_longer n s₁ s₂ e =
        subst (λ (t : State). Longer K (met n s₁.units) (met n t.units)) (sym e) (limited n s₁.units)

  units_longer : (s : State) (a b : ℕ) → b ≡ a + d → Longer of_state (ok (with_units s a)) (ok (with_units s b))
  units_longer s a b e = rw e (both tt (with_units s a) tt)

  spend_longer : (s : State) → Longer of_state (spend s) (spend (with_more s))
  unfolding spend
  spend_longer s =
      by_test (ltb 0 s.units)
      (λ t.
      let h = ltb-true 0 s.units t in
      let still : ltb 0 (s.units + d) ≡ true = lt-ltb 0 (s.units + d) (omega arith) in
      rw (t, still) (units_longer s _ _ (omega arith)))
      (λ t. rw t (gone 0 _))

  make_longer : (text : List ℕ) (c : Cell) (s : State) → Longer of_cell (make text c s) (make text c (with_more s))
  unfolding make
  make_longer text c s =
      by_test (eqb (find_cell text c 1 s.cells) 0)
      (λ t. by_test (ltb (length s.cells) most_cells)
      (λ u. rw (t, u) (both _ _ tt))
      (λ u. rw (t, u) (limited too_many_cells s.units)))
      (λ t. rw t (both _ s tt))

  governed_longer : (A₁ A₂ : Context) (N u : ℕ) → A₂ ≡ A₁ → Governed anywhere (λ s₁ s₂. s₂ ≡ with_more s₁) A₁ A₂ N u
  governed_longer A₁ A₂ N u e =
      let same : governor A₂.path N u ≡ governor A₁.path N u =
      ap (λ (A : Context). governor A.path N u) e in
      governor_cases (governor A₁.path N u)
      (λ m is. minimums m is (same ∙ is))
      (λ i f Q is. reentries i f Q Q is (same ∙ is) (ap (λ (A : Context). get_or A.stored i []) e)
      (good_anywhere _) (λ s₁ s₂ t. ap (λ (s : State). with_asked s (ask i s.asked)) t))

  -- nothing but the units differs
  longer : (book : Book) (text : List ℕ) → Laws book text
  longer book text =
      record {
        Place = anywhere;
        States = λ k s₁ s₂. s₂ ≡ with_more s₁;
        Around = λ k A₁ A₂. A₂ ≡ A₁;
        Deeper = ⊥;
        Side = λ k K s₁ s₂ m₁ m₂. Longer K m₁ m₂;
        then = λ k l K J s₁ s₂ m₁ m₂ f₁ f₂ m f. then_longer K J m₁ m₂ f₁ f₂ m (λ w s g. f w s (with_more s) g refl);
        done = λ k K w s₁ s₂ g e. done_longer K w s₁ s₂ g e;
        marked = λ k K s₁ s₂ b₁ b₂ m₁ m₂ m. m;
        limit = λ k K n s₁ s₂ e. limit_longer K n s₁ s₂ e;
        deeper = λ never. absurd never;
        spends = λ k s₁ s₂ e. subst (λ (t : State). Longer of_state (spend s₁) (spend t)) (sym e) (spend_longer s₁);
        makes = λ k c s₁ s₂ e.
            subst (λ (t : State). Longer of_cell (make text c s₁) (make text c t)) (sym e) (make_longer text c s₁);
        opens = λ k s₁ s₂ e. ap (λ (s : State). with_asked s (false ∷ s.asked)) e;
        newests = λ k s₁ s₂ e. ap (λ (s : State). newest s.asked) e;
        closes = λ k s₁ s₂ e. ap (λ (s : State). with_asked s (others s.asked)) e;
        within = λ k A₁ A₂ N u j v mine e pu pv good. ap (inside book N u j v mine) e;
        behind = λ k A₁ A₂ opening e. ap (behind_opening opening) e;
        governed = λ k A₁ A₂ N u e pu. governed_longer A₁ A₂ N u e;
        scopes = λ k A₁ A₂ e. ap (λ (A : Context). scope_of A.path) e;
        claims = λ k A₁ A₂ u e pu. ap (λ (A : Context). claimed book text A.path u) e;
        skips = λ x p. tt;
        frees = λ x y p e. tt;
        takes = λ scope step x t p e. tt;
        lists = λ scope step x comma M close y p e. tt;
        unopens = λ scope step x y p e. tt;
        names_from = λ scope step x close M y p e. tt;
        declares = λ x d p e. tt;
        goes_on_lem = λ comma x y p e. tt;
        halts_at = λ comma x y p e. tt;
        closes_at = λ close x y p e. tt;
      }

  -- ---- The run
  run_longer : (book : Book) (text : List ℕ) (allowance start : ℕ) →
      Longer of_set (run book text allowance start) (run book text (allowance + d) start)
  unfolding run longer
  run_longer book text allowance start =
      let L = longer book text in
      let inner = runner book text most_nesting in
      let none_around : Context = record { path = []; stored = [] } in
      enter_alike L inner inner (runner_alike L most_nesting) {k = 0} none_around none_around start
      (skip_from text 0) refl tt (pair L _ _ refl)

  -- ---- The answer: what is gone of the allowance is the same
  module _ (cells parses text : List ℕ) where
    cleared_same : (number place kind argument work work' : ℕ) → work' ≡ work →
        cleared cells parses (answer number place kind argument work' 0 0)
        ≡ cleared cells parses (answer number place kind argument work 0 0)
    cleared_same number place kind argument work work' e = rw e refl

    by_values_same : (vs : List ℕ) (work work' : ℕ) (set : List (Parse ℕ)) (e : Option Error) (s : State) →
        work' ≡ work →
        by_values cells parses vs work' (parsed set e (with_more s)) ≡ by_values cells parses vs work (parsed set e s)
    unfolding by_values
    by_values_same [] work work' set e s same = rw same refl
    by_values_same (v ∷ vs) work work' set e s same = rw same refl

    result_same : (allowance : ℕ) (set : List (Parse ℕ)) (e : Option Error) (s : State) →
        at_end cells parses text (allowance + d) (ok (parsed set e (with_more s)))
        ≡ at_end cells parses text allowance (ok (parsed set e s))
    unfolding at_end
    result_same allowance set None s = by_values_same (whole_values text set) _ _ set None s (omega arith)
    result_same allowance set (Some e) s = cleared_same _ _ _ _ _ _ (omega arith)

    at_end_longer : (allowance : ℕ) (m₁ m₂ : Result Parsed) → Longer of_set m₁ m₂ →
        ((at_end cells parses text allowance m₁).answer.refusal ≡ no_unit → ⊥) →
        at_end cells parses text (allowance + d) m₂ ≡ at_end cells parses text allowance m₁
    unfolding at_end
    at_end_longer allowance m₁ m₂ (gone w m) other = absurd (other refl)
    at_end_longer allowance m₁ m₂ (limited n w) other = cleared_same _ _ _ _ _ _ (omega arith)
    at_end_longer allowance m₁ m₂ (both w s known) other = result_same allowance w.0 w.1 s

    on_book_longer : (book : Book) (start allowance : ℕ) →
        ((on_book cells parses book text start allowance).answer.refusal ≡ no_unit → ⊥) →
        on_book cells parses book text start (allowance + d) ≡ on_book cells parses book text start allowance
    unfolding on_book
    on_book_longer book start allowance other =
        by_test (leb (length book.nonterminals) start)
        (λ t. rw t refl)
        (λ t. by_test (ltb longest_text (length text))
        (λ u. rw (t, u) refl)
        (λ u. option_cases (first_high 0 text)
        (λ low. rw (t, u, low)
        (at_end_longer allowance _ _ (run_longer book text allowance start) (rw (t, u, low) at other)))
        (λ i high. rw (t, u, high) refl)))

-- an allowance from 1 to 1,000,000 is accepted
allowed : (a : ℕ) → 1 ≤ a → a ≤ most_units → (eqb a 0 || ltb most_units a) ≡ false
allowed a h k =
    let some_unit : eqb a 0 ≡ false = ne_eqb a 0 (λ e. omega arith) in
    let not_above : ltb most_units a ≡ false = le-ltb most_units a k in
    rw (some_unit, not_above) refl

book_cases : {X : Type 0} (o : Outcome) → ((number place : ℕ) → o ≡ Outcome.refusal number place → X) →
    ((book : Book) → o ≡ Outcome.book book → X) → X
book_cases (Outcome.refusal number place) f g = f number place refl
book_cases (Outcome.book book) f g = g book refl

answer_longer : (cells parses bytes text : List ℕ) (start less d : ℕ) → 1 ≤ less → less + d ≤ most_units →
    ((answer_of cells parses bytes text start less).answer.refusal ≡ no_unit → ⊥) →
    answer_of cells parses bytes text start (less + d) ≡ answer_of cells parses bytes text start less
unfolding answer_of
answer_longer cells parses bytes text start less d h k other =
    let x = allowed less h (omega arith) in
    let y = allowed (less + d) (omega arith) k in
    by_test (ltb (length cells) cells_size || ltb (length parses) parses_size)
    (λ t. rw t refl)
    (λ t. book_cases (check_book bytes)
    (λ number place refused. rw (t, x, y, refused) refl)
    (λ book accepted. rw (t, x, y, accepted)
    (on_book_longer d cells parses text book start less (rw (t, x, accepted) at other))))

pub same_under_larger : SameUnderLarger
same_under_larger cells parses bytes text start less more h k l other =
    let e : less + (more - less) ≡ more = omega arith in
    rw e at (answer_longer cells parses bytes text start less (more - less) h (omega arith) other)
