-- The run, the end and the call: a law for each return, over the code's own values.
--
-- Contents:
-- - the run: seen_limit, seen_result, run_is
-- - the end: end_limit, end_failed, end_found
-- - the start and the text: not_in_book, too_long, high_found, book_run
-- - the call: call_short, call_allowance, call_refused, call_book, verdict_refused
-- - demand 3: reads, reads_in
use Rattle.std.specs.Prelude.{◌≡◌, Bool, true, false, cond, ℕ, ◌-◌, ◌*◌, ◌<◌, ◌≤◌, length}
use Rattle.std.proofs.Math.Path.{refl, sym, ap}
use Rattle.std.proofs.Common.{subst, ◌∙◌, arith}
use mathlib.Core.List.{List, []}
use Rattle.std.specs.Prelude.{Option, None, Some, Err}
use Rattle.std.proofs.Math.ListN.{take}
use borrow.Author.Tests.{lt-ltb, le-ltb, le-leb, lt-leb, eq-eqb, ne_eqb}
use Rattle.characters.specs.Classes.{between}
use Rattle.characters.specs.Skipping.{skip_from}
use Rattle.book.specs.Book.{Book}
use Rattle.book.specs.Check.{check_book, Outcome}
use Rattle.book.specs.Index.{Verdict, Says, CheckedInto}
use Rattle.book.specs.Numbers.{fault_number}
use Rattle.book.specs.declared.refusals.Refusal.{Refusal}
use Rattle.semantics.specs.Numbers.{is_limit}
use Rattle.semantics.specs.Cells.{Cell, cells_in}
use Rattle.semantics.specs.Run as definition
use Rattle.semantics.specs.Run.{Result, met, ok, Parsed, parsed}
use Rattle.semantics.specs.Answer.{Answer, Answered, answer, written, cell_numbers, parse_numbers, whole_values}
use Rattle.semantics.specs.Answer.{first_high}
use Rattle.semantics.specs.Answer.{untouched, at_end, on_book, answer_of}
use Rattle.semantics.specs.Exact.{Exact}
use Rattle.semantics.proofs.Theorem.Found.{found_is_exactly_derivable}
use Rattle.run_model.specs.Rows.{Row, row_of}
use Rattle.run_model.specs.Model.{row_state, enter_rows, runner_rows}
use Rattle.run_model.proofs.Theorem.{seen, rows_run}
use Rattle.cells.specs.Store.{Holds, Cleared}
use Rattle.cells.specs.StoredLaws.{stored_numbers}
use Rattle.errors.specs.Maps.{failure_of}
use Rattle.errors.specs.declared.Error as tokens
use Rattle.transitions.specs.Results as code
use Rattle.transitions.specs.Outcomes.{cells_of, Held, given, Ran, Runs, failure_at}
use Rattle.run.specs.declared.reader.Answer as parse
use Rattle.run.specs.declared.whole.Values.{Values}
use Rattle.run.specs.Promise.{answer_in, answered, no_room, Reads, answer_with}
use Rattle.run.specs.Reading.{short, no_allowance, with_values, end_answer, seen_of, RunsText}
use Rattle.run.specs.ListLaws.{by_values_is}

-- the three parts of what is answered
module _ {a : parse.Answer} {b : Answer} {cells cells' parses parses' : List ℕ} where
  pub with_lists : answer_in a ≡ b → cells ≡ cells' → parses ≡ parses' →
      answered a cells parses ≡ record { answer = b; cells = cells'; parses = parses' }
  with_lists e f g = cc

-- ---- The run
no_cells : (store : List ℕ) → cells_of store 0 ≡ []
unfolding cells_of cells_in
no_cells store = refl

held_none : (text before after : List ℕ) → Cleared before after → 17408 ≤ length before → Held text after 0
held_none text before after c h =
    record {
      holds = subst (λ (cells : List Cell). Holds text after cells) (sym (no_cells after)) (c.holds text h);
      counted = rw (no_cells after);
    }

-- what is seen of the code's outcome
module _ (o : code.Outcome) (store : List ℕ) (rows : List Row) where
  pub seen_limit : (o.limit ≡ 0 → ⊥) → seen_of o store rows ≡ met o.limit o.state.units
  unfolding seen_of given seen
  seen_limit h = rw (ne_eqb o.limit 0 h)

  pub seen_result : o.limit ≡ 0 →
      seen_of o store rows ≡
      ok (parsed (row_of rows 200).set (failure_of (failure_at o))
      (record { units = o.state.units; cells = cells_of store o.state.cells; asked = [] }))
  unfolding seen_of given seen
  seen_result e = rw (eq-eqb o.limit 0 e)

module _ (book : Book) (text store₀ store₁ store₂ : List ℕ) (rows rows' : List Row) (units start first : ℕ)
    (o : code.Outcome) (size : length rows ≡ 201) where
  -- what `enter` says of the code's outcome, seen from outside, is the definition's run
  run_seen : Ran text store₂ rows' o (enter_rows book text (runner_rows book text 200) 200 0 start first
      (row_state units (cells_of store₁ 0) rows)) →
      first ≡ skip_from text 0 → seen_of o store₂ rows' ≡ definition.run book text units start
  unfolding seen_of
  run_seen ran e =
      ap seen ran.is
      ∙ ap (λ (cells : List Cell). seen (enter_rows book text (runner_rows book text 200) 200 0 start first
      (row_state units cells rows))) (no_cells store₁) ∙ ap
      (λ (u : ℕ).
      seen (enter_rows book text (runner_rows book text 200) 200 0 start u (row_state units [] rows))) e
      ∙ sym (rows_run book text units start rows size)

  pub run_is : Cleared store₀ store₁ → 17408 ≤ length store₀ → first ≡ skip_from text 0 →
      Runs text store₁ 0 store₂ rows' o
      (λ cells. enter_rows book text (runner_rows book text 200) 200 0 start first
      (row_state units cells rows)) →
      RunsText book text units start store₂ rows' o
  run_is c room e runs =
      let ran = runs (held_none text store₀ store₁ c room) in record { is = run_seen ran e; held = ran.held }

-- ---- The end
module _ (text cells cells' parses parses' store : List ℕ) (rows : List Row) (allowance work : ℕ) (o : code.Outcome)
    (a : parse.Answer) (w : work ≡ allowance - o.state.units) where
  pub end_limit : (o.limit ≡ 0 → ⊥) → (cells' ≡ written 12288 [] cells) × (parses' ≡ written 256 [] parses) →
      answer_in a ≡ answer o.limit 0 0 0 work 0 0 →
      answered a cells' parses' ≡ at_end cells parses text allowance (seen_of o store rows)
  unfolding at_end
  end_limit h lists e =
      with_lists {a = a} (e ∙ ap (λ (n : ℕ). answer o.limit 0 0 0 n 0 0) w) lists.0 lists.1
      ∙ rw (seen_limit o store rows h)

  pub end_failed : (e : tokens.Error) → o.limit ≡ 0 → failure_at o ≡ Some e →
      (cells' ≡ written 12288 [] cells) × (parses' ≡ written 256 [] parses) →
      answer_in a ≡ answer 30 e.place e.kind e.argument work 0 0 →
      answered a cells' parses' ≡ at_end cells parses text allowance (seen_of o store rows)
  unfolding at_end
  end_failed e h f lists q =
      with_lists {a = a}
      (q ∙ ap (λ (n : ℕ). answer 30 e.place e.kind e.argument n 0 0) w) lists.0 lists.1
      ∙ rw (seen_result o store rows h, f)

  pub end_found : (values : Values) (number : ℕ) → o.limit ≡ 0 → failure_at o ≡ None →
      Held text store o.state.cells →
      (cells' ≡ written 12288 (take (3 * o.state.cells) store) cells) ×
      (parses' ≡ written 256 (parse_numbers (row_of rows 200).set) parses) →
      values ≡ with_values Values.Nothing (whole_values text (row_of rows 200).set) →
      number ≡ length (row_of rows 200).set → answer_in a ≡ end_answer values work number →
      answered a cells' parses' ≡ at_end cells parses text allowance (seen_of o store rows)
  unfolding at_end
  end_found values number h f held lists v n q =
      let set = (row_of rows 200).set in
      let kept : List Cell = cells_of store o.state.cells in
      let r : Parsed = parsed set None (record { units = o.state.units; cells = kept; asked = [] }) in
      let numbers : take (3 * o.state.cells) store ≡ cell_numbers kept =
      rw held.counted at (stored_numbers text store kept held.holds) in
      with_lists {a = a}
      (q ∙ ap (λ (v : Values). end_answer v work number) v
      ∙ ap (λ (k : ℕ). end_answer (with_values Values.Nothing (whole_values text set)) work k) n
      ∙ ap (λ (k : ℕ). end_answer (with_values Values.Nothing (whole_values text set)) k (length set)) w)
      (lists.0 ∙ ap (λ (these : List ℕ). written 12288 these cells) numbers) lists.1
      ∙ by_values_is cells parses (whole_values text set) (allowance - o.state.units) r
      ∙ rw (seen_result o store rows h, f)

-- ---- The start and the text
module _ (cells parses text : List ℕ) (book : Book) (start allowance : ℕ) where
  pub not_in_book : (n : ℕ) (a : parse.Answer) → n ≡ length book.nonterminals → n ≤ start →
      answer_in a ≡ answer 9 0 0 0 0 0 0 → answered a cells parses ≡ on_book cells parses book text start allowance
  unfolding on_book
  not_in_book n a e h q = with_lists {a = a} q refl refl ∙ rw (le-leb (length book.nonterminals) start (omega arith))

  module _ (n : ℕ) (e : n ≡ length book.nonterminals) (in_book : start < n) where
    pub too_long : (a : parse.Answer) → 4096 < length text → answer_in a ≡ answer 10 4096 0 0 0 0 0 →
        answered a cells parses ≡ on_book cells parses book text start allowance
    unfolding on_book
    too_long a h q =
        with_lists {a = a} q refl refl
        ∙ rw (lt-leb (length book.nonterminals) start (omega arith), lt-ltb 4096 (length text) h)

    module _ (few : length text ≤ 4096) (high : Option ℕ) (told : high ≡ first_high 0 text) where
      pub high_found : (a : parse.Answer) (i : ℕ) → high ≡ Some i → answer_in a ≡ answer 11 i 0 0 0 0 0 →
          answered a cells parses ≡ on_book cells parses book text start allowance
      unfolding on_book
      high_found a i h q =
          with_lists {a = a} q refl refl
          ∙ rw (lt-leb (length book.nonterminals) start (omega arith), le-ltb 4096 (length text) few, ← told, h)

      pub book_run : (r : Answered) (z : Result Parsed) → high ≡ None →
          z ≡ definition.run book text allowance start →
          r ≡ at_end cells parses text allowance z → r ≡ on_book cells parses book text start allowance
      unfolding on_book
      book_run r z h ran q =
          q ∙ ap (λ (z : Result Parsed). at_end cells parses text allowance z) ran
          ∙ rw (lt-leb (length book.nonterminals) start (omega arith), le-ltb 4096 (length text) few, ← told, h)

-- ---- The call
module _ (cells parses bytes text : List ℕ) (start allowance : ℕ) where
  pub call_short : (a : parse.Answer) (t : Bool) → t ≡ short cells parses → t ≡ true →
      answer_in a ≡ answer 1 0 0 0 0 0 0 → answered a cells parses ≡ answer_of cells parses bytes text start allowance
  unfolding answer_of
  call_short a t e h q = with_lists {a = a} q refl refl ∙ rw (sym e ∙ h)

  module _ (t : Bool) (e : t ≡ short cells parses) (long : t ≡ false) where
    pub call_allowance : (a : parse.Answer) (u : Bool) → u ≡ no_allowance allowance → u ≡ true →
        answer_in a ≡ answer 2 0 0 0 0 0 0 → answered a cells parses ≡ answer_of cells parses bytes text start allowance
    unfolding answer_of
    call_allowance a u f h q = with_lists {a = a} q refl refl ∙ rw (sym e ∙ long, sym f ∙ h)

    module _ (u : Bool) (f : u ≡ no_allowance allowance) (allowed : u ≡ false) where
      pub call_refused : (a : parse.Answer) (number place : ℕ) → check_book bytes ≡ Outcome.refusal number place →
          answer_in a ≡ answer number place 0 0 0 0 0 →
          answered a cells parses ≡ answer_of cells parses bytes text start allowance
      unfolding answer_of
      call_refused a number place c q = with_lists {a = a} q refl refl ∙ rw (sym e ∙ long, sym f ∙ allowed, c)

      pub call_book : (r : Answered) (book : Book) → check_book bytes ≡ Outcome.book book →
          r ≡ on_book cells parses book text start allowance → r ≡ answer_of cells parses bytes text start allowance
      unfolding answer_of
      call_book r book c q = q ∙ rw (sym e ∙ long, sym f ∙ allowed, c)

-- the verdict is the check's, of an index that is long enough
pub verdict_refused : (bytes index index' : List ℕ) (r : Verdict) (e : Refusal) →
    CheckedInto bytes index index' r → 1091 ≤ length index → r ≡ Err e →
    check_book bytes ≡ Outcome.refusal (fault_number e.fault) e.place
verdict_refused bytes index index' r e c h is =
    by (check_book bytes) (rw (le-ltb (length index) 1091 h, is) at c.says)
  where
    by : (o : Outcome) → Says o (Err e) → o ≡ Outcome.refusal (fault_number e.fault) e.place
    by (Outcome.refusal n p) s =
        let x : fault_number e.fault ≡ n = s.refusal in
        let y : e.place ≡ p = s.place in
        cc
    by (Outcome.book b) s = let z = s.case in cc

-- ---- Demand 3
pub reads : (cells parses bytes text : List ℕ) (start allowance : ℕ) (a : Answered) →
    a ≡ answer_of cells parses bytes text start allowance →
    Reads bytes text start (answer_of cells parses bytes text start allowance) a
reads cells parses bytes text start allowance a e =
    record {
      is = e;
      exact = λ book accepted early limit.
          subst (Exact book text start) (sym e)
          (found_is_exactly_derivable cells parses bytes text start allowance book accepted
          (subst (λ (x : Answered). between 1 11 x.answer.refusal ≡ false) e early)
          (subst (λ (x : Answered). is_limit x.answer.refusal ≡ false) e limit));
    }

module _ (index store rows cells parses bytes text : List ℕ) (start allowance : ℕ) (t : Bool)
    (e : t ≡ no_room index store rows) where
  pub reads_in : (a : Answered) → t ≡ false → a ≡ answer_of cells parses bytes text start allowance →
      Reads bytes text start (answer_with index store rows cells parses bytes text start allowance) a
  reads_in a h q =
      subst (λ (x : Answered). Reads bytes text start x a)
      (ap (λ (t : Bool). cond t (untouched cells parses 1 0) (answer_of cells parses bytes text start allowance))
      (sym h ∙ e))
      (reads cells parses bytes text start allowance a q)
