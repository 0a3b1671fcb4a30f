-- Found is derivable: where a book is accepted and no limit is met, the answer lists exactly the parses with a finite
-- derivation, each once, and returns a value exactly when some derivation reaches the end and all that do agree.
use Rattle.std.specs.Prelude.{◌≡◌, true, false, ◌||◌, ◌↔◌, ℕ, suc, ◌-◌, leb, eqb, length}
use Rattle.std.proofs.Math.Path.{refl}
use Rattle.std.proofs.Common.{sym, ◌∙◌, ap, subst, arith, eqb-true}
use mathlib.Core.List.Memᴰ
use mathlib.Core.List.{List, [], ◌∷◌, map}
use Rattle.std.proofs.Math.Dec.{ltb}
use Rattle.std.proofs.lemmas.Bool.{eqb-false}
use Rattle.characters.specs.Cases.{by_test, clash}
use Rattle.characters.specs.Classes.{between}
use Rattle.characters.specs.Skipping.{skip_from}
use Rattle.book.specs.Book.{Book}
use Rattle.book.specs.Check.{check_book, Outcome}
use Rattle.semantics.specs.Numbers.{is_limit}
use Rattle.semantics.specs.Values.{Tree, Parse, whole}
use Rattle.semantics.specs.Errors.{Error}
use Rattle.semantics.specs.Derivations.{DerivesText}
use Rattle.semantics.specs.Run.{Result, met, ok, Parsed, runner, run}
use Rattle.semantics.specs.Answer.{Answer, Answered, answer, cleared, filled, whole_values, all_are, first_high}
use Rattle.semantics.specs.Answer.{by_values, at_end, on_book, answer_of}
use Rattle.semantics.proofs.Theorem.Lists.{◌∈◌}
use Rattle.semantics.proofs.Theorem.Exactly.{exact}
use Rattle.semantics.proofs.Theorem.Results.{option_cases, list_cases}
use Rattle.semantics.proofs.Theorem.Table.{Item, prefix_refl}
use Rattle.semantics.proofs.Theorem.BookFacts.{no_variants, passing_step}
use Rattle.semantics.proofs.Theorem.Forward.{Kept, run_keeps}
use Rattle.semantics.proofs.Theorem.Failures.{enter_fails}
use Rattle.semantics.proofs.Theorem.Limits.{run_limits}
use Rattle.semantics.proofs.Theorem.Made.{tree_for}
use Rattle.semantics.proofs.Theorem.LinkSteps.{run_ok}
use Rattle.semantics.specs.Exact.{StandsFor, ReachesEnd, Exact, FoundIsExactlyDerivable}
use Rattle.semantics.proofs.Theorem.Outcomes.{Says, says_value, says_no_parse, says_none_whole, says_differ}
use Rattle.semantics.proofs.Theorem.Listing.{tree_now, parse_for, stands_for, entry_there, entry_only, entry_once}
use Rattle.semantics.proofs.Theorem.Listing.{listed, unlisted, value_once}

-- ---- The values of the whole parses
module _ (text : List ℕ) where
  whole_in : (set : List (Parse ℕ)) {v : ℕ} → v ∈ whole_values text set →
      (p : Parse ℕ) × (p ∈ set) × (whole text p ≡ true) × (v ≡ p.value)
  unfolding whole_values
  whole_in [] m = absurd (Memᴰ.not-nil m)
  whole_in (p ∷ set) {v} m =
      by_test (whole text p)
      (λ t. first_or_later t (rw t at m) (λ n. whole_in set n))
      (λ t. later (whole_in set (rw t at m)))
    where
      later : (q : Parse ℕ) × (q ∈ set) × (whole text q ≡ true) × (v ≡ q.value) →
          (q : Parse ℕ) × (q ∈ (p ∷ set)) × (whole text q ≡ true) × (v ≡ q.value)
      later q = (q.0, Memᴰ.tail q.1, q.2, q.3)

      first_or_later : whole text p ≡ true → v ∈ (p.value ∷ whole_values text set) →
          (v ∈ whole_values text set → (q : Parse ℕ) × (q ∈ set) × (whole text q ≡ true) × (v ≡ q.value)) →
          (q : Parse ℕ) × (q ∈ (p ∷ set)) × (whole text q ≡ true) × (v ≡ q.value)
      first_or_later t (Memᴰ.head e) k = (p, Memᴰ.head refl, t, e)
      first_or_later t (Memᴰ.tail n) k = later (k n)

  in_whole : {p : Parse ℕ} {set : List (Parse ℕ)} → p ∈ set → whole text p ≡ true → p.value ∈ whole_values text set
  unfolding whole_values
  in_whole {p = p} (Memᴰ.head {x = q} {xs = set} e) t =
      rw (ap (whole text) (sym e) ∙ t) (Memᴰ.head (ap (λ (z : Parse ℕ). z.value) e))
  in_whole (Memᴰ.tail {x = q} {xs = set} m) t =
      by_test (whole text q) (λ u. rw u (Memᴰ.tail (in_whole m t))) (λ u. rw u (in_whole m t))

all_are_lem : (v : ℕ) (vs : List ℕ) → all_are v vs ≡ true → (w : ℕ) → w ∈ vs → v ≡ w
unfolding all_are
all_are_lem v [] e w m = absurd (Memᴰ.not-nil m)
all_are_lem v (u ∷ vs) e w m =
    by_test (eqb v u)
    (λ t. one_of_them (eqb-true v u t) m (λ n. all_are_lem v vs (rw t at e) w n))
    (λ t. clash (rw t at e) refl)
  where
    one_of_them : v ≡ u → w ∈ (u ∷ vs) → (w ∈ vs → v ≡ w) → v ≡ w
    one_of_them s (Memᴰ.head d) k = s ∙ sym d
    one_of_them s (Memᴰ.tail n) k = k n

not_all : (v : ℕ) (vs : List ℕ) → all_are v vs ≡ false → (w : ℕ) × (w ∈ vs) × (v ≡ w → ⊥)
unfolding all_are
not_all v [] e = clash refl e
not_all v (u ∷ vs) e =
    by_test (eqb v u)
    (λ t. let r = not_all v vs (rw t at e) in (r.0, Memᴰ.tail r.1, r.2))
    (λ t. (u, Memᴰ.head refl, eqb-false v u t))

-- ---- A run that has a result
module _ (bytes : List ℕ) (book : Book) (accepted : check_book bytes ≡ Outcome.book book) (text : List ℕ)
    (start allowance : ℕ) (r : Parsed) (ran : run book text allowance start ≡ ok r)
    (h : Kept text r) (lentCells lentParses : List ℕ) where
  -- the trees of the set are the derivable parses
  found : (p : Parse Tree) → (p ∈ map (tree_now text r) r.set) ↔ DerivesText book text start p
  found p =
      exact book text (no_variants bytes book accepted) start (skip_from text 0) _ _
      (run_ok book text r.state.cells h.table allowance start r ran (prefix_refl r.state.cells)) p

  -- a parse of the set, of a derivable one
  pub record Source (p : Parse Tree) : Type 0 where
    pub parse : Parse ℕ
    pub member : parse ∈ r.set
    pub is : tree_now text r parse ≡ p

  source : (p : Parse Tree) → DerivesText book text start p → Source p
  source p d =
      let q = Memᴰ.of_map (tree_now text r) r.set ((found p).1 d) in record { parse = q.0; member = q.1; is = q.2 }

  derives : (p : Parse ℕ) → p ∈ r.set → DerivesText book text start (tree_now text r p)
  derives p m = (found _).0 (Memᴰ.map (tree_now text r) m)

  -- the value of a parse that reaches the end is among the whole values
  reached : (p : Parse Tree) → ReachesEnd book text start p →
      (s : Source p) × (s.parse.value ∈ whole_values text r.set)
  reached p d = let s = source p d.derived in (s, in_whole text s.member (ap (whole text) s.is ∙ d.ends))

  reaches : {v : ℕ} → v ∈ whole_values text r.set →
      (p : Parse ℕ) × (p ∈ r.set) × ReachesEnd book text start (tree_now text r p) × (v ≡ p.value)
  reaches m =
      let w = whole_in text r.set m in (w.0, w.1, record { derived = derives w.0 w.1; ends = w.2 }, w.3)

  -- ---- With lists filled
  module _ (a : Answer) (number : a.parses ≡ length r.set) where
    abbrev exit : Answered
    exit = filled lentCells lentParses a r

    exact_filled : Says book text start a.refusal →
        (a.refusal ≡ 0 → (p : Parse Tree) → ReachesEnd book text start p →
        StandsFor text exit.cells a.value p.value) → Exact book text start exit
    exact_filled says cell = record {
      derivable = λ p. (
        λ d. let l = listed text r h lentCells lentParses a p ((found p).1 d) in
            (l.0, omega (arith, l.1, number), l.2),
        λ l. (found p).0 (unlisted text r h lentCells lentParses a p l.0 (omega (arith, l.1, number)) l.2),
      );
      once = λ p i k x y e f.
          entry_once text r h lentCells lentParses a p i k (omega (arith, x, number)) (omega (arith, y, number)) e f;
      each = λ i x. (
        tree_now text r (parse_for r i),
        entry_there text r h lentCells lentParses a i (omega (arith, x, number)),
        λ q k. entry_only text r h lentCells lentParses a i (omega (arith, x, number)) q k,
      );
      value = says.value;
      value_cell = cell;
      has_no_parse = says.has_no_parse;
      has_none_whole = says.has_none_whole;
      differ = says.differ;
    }

  no_value : {n : ℕ} {P' : Type 0} → suc n ≡ 0 → P'
  no_value e = absurd (omega arith)

  -- the set isn't empty: 31, 32 or a value
  module _ (not_empty : r.set ≡ [] → ⊥) where
    first_parse : (p : Parse ℕ) × (p ∈ r.set)
    first_parse =
        list_cases r.set (λ e. absurd (not_empty e))
        (λ p ps e. (p, subst (λ l. p ∈ l) (sym e) (Memᴰ.head refl)))

    exact_none_whole : whole_values text r.set ≡ [] →
        Exact book text start
        (filled lentCells lentParses (answer 31 0 0 0 (allowance - r.state.units) (length r.set) 0) r)
    exact_none_whole has_none_whole =
        exact_filled (answer 31 0 0 0 (allowance - r.state.units) (length r.set) 0) refl
        (says_none_whole book text start (record {
          exists = (tree_now text r first_parse.0, derives first_parse.0 first_parse.1);
          all = λ p d. by_test (whole text p)
              (λ t.
              let q = reached p (record { derived = d; ends = t }) in
              absurd (Memᴰ.not-nil (subst (λ l. q.0.parse.value ∈ l) has_none_whole q.1)))
              (λ t. t);
        }))
        (λ e. no_value e)

    module _ (v : ℕ) (vs : List ℕ) (values : whole_values text r.set ≡ v ∷ vs) where
      v_in : v ∈ whole_values text r.set
      v_in = subst (λ l. v ∈ l) (sym values) (Memᴰ.head refl)

      -- all agree
      module _ (same : all_are v vs ≡ true) where
        value_is : (p : Parse Tree) → ReachesEnd book text start p → tree_for text r.state.cells v ≡ p.value
        value_is p d =
            let q = reached p d in
            ap (tree_for text r.state.cells) (all_same (subst (λ l. q.0.parse.value ∈ l) values q.1))
            ∙ ap (λ (z : Parse Tree). z.value) q.0.is
          where
            all_same : {w : ℕ} → w ∈ (v ∷ vs) → v ≡ w
            all_same (Memᴰ.head e) = sym e
            all_same {w} (Memᴰ.tail m) = all_are_lem v vs same w m

        exact_value : Exact book text start
            (filled lentCells lentParses (answer 0 0 0 0 (allowance - r.state.units) (length r.set) v) r)
        exact_value =
            let w = reaches v_in in
            exact_filled (answer 0 0 0 0 (allowance - r.state.units) (length r.set) v) refl
            (says_value book text start
            (record { exists = (tree_now text r w.0, w.2); all = λ p q d e. sym (value_is p d) ∙ value_is q e }))
            (λ e p d. subst (λ t. StandsFor text (filled lentCells lentParses
            (answer 0 0 0 0 (allowance - r.state.units) (length r.set) v) r).cells v t) (value_is p d)
            (stands_for text r h lentCells lentParses (answer 0 0 0 0 (allowance - r.state.units) (length r.set) v)
            v (subst (λ n. Item text r.state.cells n) (sym w.3) (h.values w.0 w.1))))

      -- two differ
      exact_differ : all_are v vs ≡ false →
          Exact book text start
          (filled lentCells lentParses (answer 32 0 0 0 (allowance - r.state.units) (length r.set) 0) r)
      exact_differ apart =
          let u = not_all v vs apart in
          let w = reaches v_in in
          let z = reaches (subst (λ l. u.0 ∈ l) (sym values) (Memᴰ.tail u.1)) in
          exact_filled (answer 32 0 0 0 (allowance - r.state.units) (length r.set) 0) refl
          (says_differ book text start (record {
            first = tree_now text r w.0;
            second = tree_now text r z.0;
            reaches = (w.2, z.2);
            apart = λ e. u.2 (w.3 ∙ value_once text r h lentCells lentParses (answer 32 0 0 0
                (allowance - r.state.units) (length r.set) 0) w.0 z.0 w.1 z.1 e ∙ sym z.3);
          }))
          (λ e. no_value e)

    exact_by_values : Exact book text start
        (by_values lentCells lentParses (whole_values text r.set) (allowance - r.state.units) r)
    unfolding by_values
    exact_by_values =
        list_cases (whole_values text r.set)
        (λ has_none_whole. rw has_none_whole (exact_none_whole has_none_whole))
        (λ v vs values. by_test (all_are v vs)
        (λ same. rw (values, same) (exact_value v vs values same))
        (λ apart. rw (values, apart) (exact_differ v vs values apart)))

  -- the set is empty: 30
  exact_no_parse : (e : Error) → r.set ≡ [] →
      Exact book text start
      (cleared lentCells lentParses (answer 30 e.place e.kind e.argument (allowance - r.state.units) 0 0))
  exact_no_parse e empty = record {
    derivable = λ p. (λ d. absurd (no_derivation p d), λ l. absurd (omega (arith, l.1)));
    once = λ p i k x y f g. absurd (omega (arith, x));
    each = λ i x. absurd (omega (arith, x));
    value = says.value;
    value_cell = λ z. no_value z;
    has_no_parse = says.has_no_parse;
    has_none_whole = says.has_none_whole;
    differ = says.differ;
  }
    where
      no_derivation : (p : Parse Tree) → DerivesText book text start p → ⊥
      no_derivation p d = let s = source p d in Memᴰ.not-nil (subst (λ l. s.parse ∈ l) empty s.member)

      says : Says book text start 30
      says = says_no_parse book text start no_derivation

  exact_at_end : Exact book text start (at_end lentCells lentParses text allowance (ok r))
  unfolding at_end run
  exact_at_end =
      let f = enter_fails book text (runner book text 200) [] [] start (skip_from text 0) _ r ran in
      option_cases r.failure
      (λ fine. rw fine (exact_by_values (f.finds fine)))
      (λ e failed. rw failed (exact_no_parse e (f.fails e failed)))

-- ---- The answer
module _ (cells parses bytes text : List ℕ) (start allowance : ℕ) (book : Book)
    (accepted : check_book bytes ≡ Outcome.book book) where
  -- the run's result, or its limit
  result_cases : {P' : Type 0} (x : Result Parsed) → ((r : Parsed) → x ≡ ok r → P') →
      ((number units : ℕ) → x ≡ met number units → P') → P'
  result_cases (ok r) f g = f r refl
  result_cases (met number units) f g = g number units refl

  after_run :
      is_limit (at_end cells parses text allowance (run book text allowance start)).answer.refusal ≡ false →
      Exact book text start (at_end cells parses text allowance (run book text allowance start))
  unfolding at_end
  after_run no_limit =
      result_cases (run book text allowance start)
      (λ r ran. rw ran (exact_at_end bytes book accepted text start allowance r ran
      (run_keeps book text (passing_step bytes book accepted) allowance start r ran) cells parses))
      (λ number units limit. clash (run_limits book text allowance start number units limit) (rw limit at no_limit))

  -- an answer that isn't refused before the run is the run's
  by_run : between 1 11 (answer_of cells parses bytes text start allowance).answer.refusal ≡ false →
      answer_of cells parses bytes text start allowance
      ≡ at_end cells parses text allowance (run book text allowance start)
  unfolding answer_of on_book
  by_run e =
      by_test (ltb (length cells) 12288 || ltb (length parses) 256)
      (λ t. clash refl (rw t at e))
      (λ t. by_test (eqb allowance 0 || ltb 1000000 allowance)
      (λ u. clash refl (rw (t, u) at e))
      (λ u. by_test (leb (length book.nonterminals) start)
      (λ v. clash refl (rw (t, u, accepted, v) at e))
      (λ v. by_test (ltb 4096 (length text))
      (λ w. clash refl (rw (t, u, accepted, v, w) at e))
      (λ w. option_cases (first_high 0 text)
      (λ fine. rw (t, u, accepted, v, w, fine) refl)
      (λ i high. clash refl (rw (t, u, accepted, v, w, high) at e))))))

pub found_is_exactly_derivable : FoundIsExactlyDerivable
found_is_exactly_derivable cells parses bytes text start allowance book accepted not_refused no_limit =
    let same = by_run cells parses bytes text start allowance book accepted not_refused in
    subst (Exact book text start) (sym same)
    (after_run cells parses bytes text start allowance book accepted
    (subst (λ (a : Answered). is_limit a.answer.refusal ≡ false) same no_limit))
