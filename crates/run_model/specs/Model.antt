-- The run over the rows, function by function as the definition of the run has it. Scaffolding between that definition
-- and the code: no definition of document 01.
--
-- Sets and marks stand in the rows. So a part gives its failure and the state alone: what a call found is the set of
-- its row, and what the variants of the call of row c have found is that row's run. `n`, the levels of nesting left, is
-- also the first free row; a call uses row n, and what follows its parses runs with one level less while row n keeps
-- them. What touches neither sets nor marks is the definition's own function, run on a state without marks.
--
-- A use is entered at row n with its binder (Rows): a child with the one that it inherits from its call's row.
--
-- The letters are those of the run's definition, but that c, n and g are rows: of the call at hand, the free one, and
-- the governor's. T is a table.
use Rattle.std.specs.Prelude.{Bool, true, ◌&&◌, List, [], ◌∷◌, ◌++◌, ℕ, zero, suc, ◌+◌, ◌-◌, leb, eqb, length, get_or}
use Rattle.std.specs.Prelude.{Option, None, Some}
use Rattle.characters.specs.Classes.{between}
use Rattle.characters.specs.Skipping.{skip_from}
use Rattle.book.specs.Book.{Entry, Book, nth_nonterminal, nth_variant, associativity_number, step_number}
use Rattle.book.specs.declared.records.Associativity.{Associativity}
use Rattle.book.specs.declared.records.Step.{Step}
use Rattle.book.specs.Numbers.{default_level}
use Rattle.semantics.specs.Numbers.{most_rounds, most_declared, too_deep, too_many_parses, too_many_names}
use Rattle.semantics.specs.Numbers.{character_wanted, nonterminal_wanted}
use Rattle.semantics.specs.Values.{Parse, absent_parse}
use Rattle.semantics.specs.Uses.{has_mark}
use Rattle.semantics.specs.Tokens.{Read, when, is_some, character_end, variable_at, free_end, kind_at, declaration_at}
use Rattle.semantics.specs.Steps.{Taken, step_at, goes, halts, after_element, closed, Todo, taking, elements, ending}
use Rattle.semantics.specs.Steps.{naming, closing, todo_of}
use Rattle.semantics.specs.Cells.{Cell}
use Rattle.semantics.specs.Errors.{Error, error, join_with, chosen_failure, step_error, declaration_error}
use Rattle.semantics.specs.Run.{Result, met, ok, ◌>>=◌, State, Made, made, Call, call, all_in, kept, add, add_all}
use Rattle.semantics.specs.Run.{spend}
use Rattle.semantics.specs.Run.{make, failed_call, either, closing_code, begin, with_cell, with_token, counted}
use Rattle.semantics.specs.Run.{declared_names}
use Rattle.run_model.specs.Rows.{Row, opened, ended, with_variant, with_child, was_asked, with_set, with_run, copied}
use Rattle.run_model.specs.Rows.{declared, row_of, on_row, use_at, binder_for, scope_at, scope_in, minimum, same_start}
use Rattle.run_model.specs.Rows.{governor_of, claims_use}

-- units left, cells so far, and the rows
pub record RowState : Type 0 where
  pub units : ℕ
  pub cells : List Cell
  pub rows : List Row

abbrev pub row_state : ℕ → List Cell → List Row → RowState
row_state units cells rows = record { units = units; cells = cells; rows = rows }

-- how a part ends, if it meets no limit
pub record Outcome : Type 0 where
  pub failure : Option Error
  pub state : RowState

abbrev pub outcome : Option Error → RowState → Outcome
outcome failure state = record { failure = failure; state = state }

-- a cell's number, and the state after it
pub record RowMade : Type 0 where
  pub cell : ℕ
  pub state : RowState

abbrev pub row_made : ℕ → RowState → RowMade
row_made cell state = record { cell = cell; state = state }

-- runs what is left of a variant: of the call of a row, a variant's number, what is left to do, a place and the items
-- so far
abbrev pub RowRunner : Type 0
RowRunner = ℕ → ℕ → List (Todo ℕ) → ℕ → ℕ → RowState → Result Outcome

-- runs what is left behind a list or a step, on the same level: from a place, after these items
abbrev pub RowGo : Type 0
RowGo = ℕ → ℕ → RowState → Result Outcome

-- runs what follows a parse of a child, one level further in
abbrev pub RowNext : Type 0
RowNext = Parse ℕ → RowState → RowRunner → Result Outcome

-- ---- States
abbrev pub unmarked : RowState → State
unmarked s = record { units = s.units; cells = s.cells; asked = [] }

abbrev pub at_row : ℕ → (Row → Row) → RowState → RowState
at_row i f s = row_state s.units s.cells (on_row s.rows i f)

-- cells are made; the rows stay
unfoldable pub makes : (State → Result Made) → RowState → Result RowMade
makes f s = f (unmarked s) >>= (λ m. ok (row_made m.cell (row_state m.state.units m.state.cells s.rows)))

unfoldable pub spend_rows : RowState → Result RowState
spend_rows s = spend (unmarked s) >>= (λ t. ok (row_state t.units t.cells s.rows))

-- ---- Errors
-- a call as errors know it: its nonterminal and start
abbrev pub bare_call : ℕ → ℕ → Call
bare_call N u = call [] [] N u []

-- no parse is a failure
unfoldable pub fails_empty : List (Parse ℕ) → Error → Option Error
fails_empty [] e = Some e
fails_empty (p ∷ ps) e = None

-- the failures of what follows the parses of a child, up to the i-th
unfoldable pub together : ℕ → Option Error → Option Error → Option Error
together zero before failure = failure
together (suc i) before failure = either before failure

-- where the spelling of a name that is declared at a place begins: behind the word for its kind
unfoldable pub name_place : Book → List ℕ → ℕ → ℕ
name_place book text at = elim (kind_at book text at) [ Some k ↦ skip_from text k.end | None ↦ 0 ]

module _ (book : Book) (text : List ℕ) where
  -- ---- The end of a variant
  unfoldable pub cell_of_value : ℕ → ℕ → State → Result Made
  cell_of_value j items s =
      when (nth_variant book j).passing (λ _. ok (made items s)) (λ _. make text (Cell.variant j items) s)

  abbrev pub variant_parse : ℕ → ℕ → ℕ → Parse ℕ
  variant_parse j x value =
      record {
        rest = x;
        level = (nth_variant book j).level;
        associativity = (nth_variant book j).associativity;
        value = value;
      }

  -- a parse joins the run's set of row c
  unfoldable pub add_run : ℕ → Parse ℕ → RowState → Result Outcome
  add_run c p s = add (unmarked s) (row_of s.rows c).run p >>= (λ more. ok (outcome None (at_row c (with_run more) s)))

  unfoldable pub complete_rows : ℕ → ℕ → ℕ → ℕ → RowState → Result Outcome
  complete_rows c j x items s = makes (cell_of_value j items) s >>= (λ m. add_run c (variant_parse j x m.cell) m.state)

  -- ---- The variants of the call of row c
  abbrev pub take_variant : ℕ → Row → Row
  take_variant j r = with_variant (nth_variant book j).level (associativity_number (nth_variant book j).associativity) r

  unfoldable pub variants_rows : RowRunner → ℕ → ℕ → ℕ → ℕ → Option Error → RowState → Result Outcome
  variants_rows run c m zero j e s = ok (outcome e s)
  variants_rows run c m (suc k) j e s =
      let r = row_of s.rows c in
      when (leb m (nth_variant book j).level)
      (λ _. do
        b ← makes (begin book text j) s
        o ← run c j (todo_of book (nth_variant book j)) r.start b.cell (at_row c (take_variant j) b.state)
        variants_rows run c m k (suc j)
            (join_with e (counted book text (bare_call r.nonterminal r.start) j o.failure)) o.state)
      (λ _. variants_rows run c m k (suc j) e s)

  -- one run: the run's set is empty at first
  unfoldable pub one_run_rows : RowRunner → ℕ → ℕ → RowState → Result Outcome
  one_run_rows run c m s =
      let nt = nth_nonterminal book (row_of s.rows c).nonterminal in
      variants_rows run c m nt.count nt.first None (at_row c (with_run []) s)

  -- after a further run: it added nothing, or its set joins the call's and the call is run again
  unfoldable pub settle : ℕ → (RowState → Result Outcome) → RowState → Result Outcome
  settle c again s =
      let r = row_of s.rows c in
      when (all_in r.set r.run) (λ _. ok (outcome None (at_row c ended s)))
      (λ _. add_all (unmarked s) r.set r.run >>= (λ all. again (at_row c (with_set all) s)))

  unfoldable pub rounds_rows : ℕ → RowRunner → ℕ → ℕ → RowState → Result Outcome
  rounds_rows zero run c m s = met too_many_parses s.units
  rounds_rows (suc k) run c m s = one_run_rows run c m s >>= (λ o. settle c (λ t. rounds_rows k run c m t) o.state)

  -- after the first run: its set is the call's
  unfoldable pub settle_first : ℕ → (RowState → Result Outcome) → Outcome → Result Outcome
  settle_first c again o =
      let s = o.state in
      let r = row_of s.rows c in
      elim r.run [
        | [] ↦
            ok (outcome (Some (failed_call (bare_call r.nonterminal r.start) o.failure))
            (at_row c (λ r. ended (copied r)) s))
        | p ∷ ps ↦
            when (eqb r.asked 1) (λ _. again (at_row c copied s))
            (λ _. ok (outcome None (at_row c (λ r. ended (copied r)) s)))
      ]

  unfoldable pub run_call_rows : RowRunner → ℕ → ℕ → ℕ → ℕ → ℕ → RowState → Result Outcome
  run_call_rows run n binder N u m s =
      one_run_rows run n m (at_row n (opened binder N u) s) >>=
      (λ o. settle_first n (λ t. rounds_rows most_rounds run n m t) o)

  -- ---- A use of mark 2
  abbrev pub claimed_rows : List Row → ℕ → ℕ → ℕ → Bool
  claimed_rows T n binder u = is_some (variable_at book text (scope_at text T n binder) u) && claims_use book T n
      binder u

  abbrev pub identifier_parse : ℕ → ℕ → Parse ℕ
  identifier_parse end cell =
      record { rest = end; level = default_level; associativity = Associativity.Both; value = cell }

  unfoldable pub named_rows : ℕ → ℕ → ℕ → RowState → Option ℕ → Result Outcome
  named_rows n N u s None = ok (outcome (Some (failed_call (bare_call N u) None)) s)
  named_rows n N u s (Some end) = do
    m ← makes (make text (Cell.name u (end - u))) s
    ok (outcome None (at_row n (with_set (identifier_parse end m.cell ∷ [])) m.state))

  unfoldable pub run_identifier_rows : ℕ → ℕ → ℕ → ℕ → RowState → Result Outcome
  run_identifier_rows n binder N u s =
      let t = at_row n (λ r. ended (with_set [] r)) s in
      named_rows n N u t (when (claimed_rows t.rows n binder u) (λ _. None) (λ _. free_end book text u))

  -- ---- What follows a parse
  unfoldable pub plain_next_rows : ℕ → ℕ → List (Todo ℕ) → ℕ → RowNext
  plain_next_rows c j rest items q s run =
      makes (with_cell book text j items q.value) s >>= (λ m. run c j rest q.rest m.cell m.state)

  unfoldable pub list_next_rows : ℕ → ℕ → Bool → ℕ → ℕ → Option ℕ → List (Todo ℕ) → ℕ → RowNext
  list_next_rows c j comma M values close rest items q s run = do
    m ← makes (make text (Cell.chain values q.value)) s
    elim (after_element text comma q.rest) [
      | goes y ↦ run c j (elements comma M m.cell close ∷ rest) y items m.state
      | halts y ↦ run c j (ending m.cell close ∷ rest) y items m.state
    ]

  -- a list stops: its cell, then its closing, then its chain cell
  unfoldable pub stops_rows : ℕ → ℕ → Option ℕ → RowGo → RowGo
  stops_rows j values close go x items s = do
    l ← makes (make text (Cell.list values)) s
    elim (closed text close x) [
      | None ↦ ok (outcome (Some (error (skip_from text x) character_wanted (closing_code close))) l.state)
      | Some y ↦ makes (with_cell book text j items l.cell) l.state >>= (λ m. go y m.cell m.state)
    ]

-- ---- One level of nesting, with n levels left. `inner` runs a variant one level further in; none is 21
module _ (book : Book) (text : List ℕ) (inner : Option RowRunner) (n : ℕ) where
  unfoldable pub nested_rows : RowState → (RowRunner → Result Outcome) → Result Outcome
  nested_rows s f = elim inner [ Some run ↦ f run | None ↦ met too_deep s.units ]

  -- row n keeps a name that is declared at a place: its kind, and where its spelling begins and how long it is
  abbrev pub with_declared : ℕ → Read Entry → RowState → RowState
  with_declared at d s =
      let place = name_place book text at in at_row n (declared d.value.label place (d.end - place)) s

  -- what row n found are the parses that its governor has stored, filtered; the governor is asked
  abbrev pub with_stored : ℕ → RowState → RowState
  with_stored g s =
      let r = row_of s.rows g in at_row n (λ t. ended (with_set (kept (use_at r) r.set) t)) (at_row g was_asked s)

  unfoldable pub stored_rows : ℕ → ℕ → ℕ → RowState → Outcome
  stored_rows g N u s =
      outcome (fails_empty (row_of (with_stored g s).rows n).set (error u nonterminal_wanted N)) (with_stored g s)

  unfoldable pub enter_rows : ℕ → ℕ → ℕ → RowState → Result Outcome
  enter_rows binder N u s₀ = do
    s ← spend_rows s₀
    elim (governor_of s.rows n binder N u) [
      | same_start g ↦ ok (stored_rows g N u s)
      | minimum m ↦ nested_rows s (λ run. when (has_mark book 2 N) (λ _. run_identifier_rows book text n binder N u s)
          (λ _. run_call_rows book text run n binder N u m s))
    ]

  -- the call of a child of row c's call, behind an opening that was read or behind none
  unfoldable pub enter_child_rows : Option (List Entry) → ℕ → ℕ → ℕ → RowState → Result Outcome
  enter_child_rows opening c M x s =
      let at = skip_from text x in
      enter_rows (binder_for opening (row_of s.rows c).binder) M at (at_row c (with_child at) s)

  -- what follows k parses of row n from the i-th on
  unfoldable pub follow_from : RowNext → ℕ → ℕ → Option Error → RowState → Result Outcome
  follow_from next zero i failure s = ok (outcome failure s)
  follow_from next (suc k) i failure s = do
    o ← nested_rows s (λ run. next (get_or (row_of s.rows n).set i absent_parse) s run)
    follow_from next k (suc i) (together i failure o.failure) o.state

  abbrev pub follow_rows : RowNext → RowState → Result Outcome
  follow_rows next s = follow_from next (length (row_of s.rows n).set) 0 None s

  -- the parses of a child are followed, if there are any
  unfoldable pub followed_rows : RowNext → Outcome → Result Outcome
  followed_rows next o =
      elim o.failure [ Some e ↦ ok (outcome (Some e) o.state) | None ↦ follow_rows next o.state ]

  unfoldable pub step_unit_rows : Step → RowState → Result RowState
  step_unit_rows step s = when (between 10 11 (step_number step)) (λ _. ok s) (λ _. spend_rows s)

  -- both sides of a choice
  abbrev pub chosen_rows : ℕ → ℕ → Option Error → Outcome → Outcome
  chosen_rows c at a b = outcome (chosen_failure at (row_of b.state.rows c).nonterminal a b.failure) b.state

  -- a child at a place is called, then followed, behind the other side of the choice
  unfoldable pub or_child : ℕ → ℕ → RowNext → ℕ → Outcome → Result Outcome
  or_child c M next x a = do
    r ← enter_child_rows None c M x a.state
    b ← followed_rows next r
    ok (chosen_rows c (skip_from text x) a.failure b)

  unfoldable pub or_absent_rows : ℕ → ℕ → ℕ → List (Todo ℕ) → RowGo → RowGo
  or_absent_rows c j M rest go x items s = do
    absent ← makes (make text Cell.absent) s
    m ← makes (with_cell book text j items absent.cell) absent.state
    a ← go x m.cell m.state
    or_child c M (plain_next_rows book text c j rest items) x a

  unfoldable pub choice_rows : ℕ → ℕ → Bool → ℕ → ℕ → Option ℕ → List (Todo ℕ) → RowGo → RowGo
  choice_rows c j comma M values close rest go x items s₀ = do
    s ← spend_rows s₀
    a ← stops_rows book text j values close go x items s
    or_child c M (list_next_rows book text c j comma M values close rest items) x a

  unfoldable pub listing_rows : ℕ → ℕ → Bool → ℕ → Option ℕ → List (Todo ℕ) → RowGo → RowGo
  listing_rows c j comma M close rest go x items s =
      makes (make text Cell.empty) s >>= (λ e. choice_rows c j comma M e.cell close rest go x items e.state)

  -- ---- Binders
  -- the names in scope leave room for those of an opening
  unfoldable pub open_rows : Option (List Entry) → ℕ → RowState → Result RowState
  open_rows None c s = ok s
  open_rows (Some names) c s =
      when (leb (length names + declared_names (scope_in text s.rows c)) most_declared) (λ _. ok s)
      (λ _. met too_many_names s.units)

  unfoldable pub body_rows : Option (List Entry) → ℕ → ℕ → ℕ → ℕ → List (Todo ℕ) → RowGo
  body_rows opening c j M item rest x items s₀ = do
    m ← makes (with_cell book text j items item) s₀
    s ← open_rows opening c m.state
    r ← enter_child_rows opening c M x s
    followed_rows (plain_next_rows book text c j rest m.cell) r

  unfoldable pub opens_rows : ℕ → ℕ → List Entry → ℕ → ℕ → ℕ → List (Todo ℕ) → RowGo
  opens_rows c j names kinds close M rest x items s = do
    l ← makes (make text (Cell.list kinds)) s
    elim (character_end text close x) [
      | None ↦ ok (outcome (Some (error (skip_from text x) character_wanted close)) l.state)
      | Some y ↦ body_rows (Some names) c j M l.cell rest y items l.state
    ]

  -- a declared name, which row n keeps, and what follows it, one level further in
  unfoldable pub declares_rows : ℕ → ℕ → List Entry → ℕ → ℕ → ℕ → List (Todo ℕ) → RowGo
  declares_rows c j names kinds close M rest x items s₀ = do
    s ← spend_rows s₀
    nested_rows s (λ run. elim (declaration_at book text (skip_from text x)) [
      | None ↦ ok (outcome (Some (declaration_error book text (skip_from text x))) s)
      | Some d ↦ do
        k ← makes (make text (Cell.number 0 d.value.label)) s
        m ← makes (make text (Cell.chain kinds k.cell)) k.state
        elim (after_element text true d.end) [
          | goes y ↦
              run c j (naming (names ++ (d.value ∷ [])) m.cell close M ∷ rest) y items
              (with_declared (skip_from text x) d m.state)
          | halts y ↦
              run c j (closing (names ++ (d.value ∷ [])) m.cell close M ∷ rest) y items
              (with_declared (skip_from text x) d m.state)
        ]
    ])

  unfoldable pub name_choice_rows : ℕ → ℕ → List Entry → ℕ → ℕ → ℕ → List (Todo ℕ) → RowGo
  name_choice_rows c j names kinds close M rest x items s₀ = do
    s ← spend_rows s₀
    a ← opens_rows c j names kinds close M rest x items s
    b ← declares_rows c j names kinds close M rest x items a.state
    ok (chosen_rows c (skip_from text x) a.failure b)

  unfoldable pub steps_rows : RowRunner
  steps_rows c j [] x items s = complete_rows book text c j x items s
  steps_rows c j (elements comma M values close ∷ rest) x items s =
      choice_rows c j comma M values close rest (steps_rows c j rest) x items s
  steps_rows c j (ending values close ∷ rest) x items s =
      stops_rows book text j values close (steps_rows c j rest) x items s
  steps_rows c j (naming names kinds close M ∷ rest) x items s =
      name_choice_rows c j names kinds close M rest x items s
  steps_rows c j (closing names kinds close M ∷ rest) x items s = opens_rows c j names kinds close M rest x items s
  steps_rows c j (taking step ∷ rest) x items s₀ = do
    s ← step_unit_rows step s₀
    elim (step_at book text (scope_in text s.rows c) step x) [
      | Taken.nothing ↦ ok (outcome (Some (step_error book text (scope_in text s.rows c) step (skip_from text x))) s)
      | Taken.token t ↦ makes (with_token book text j items t.item) s >>=
          (λ m. steps_rows c j rest t.next m.cell m.state)
      | Taken.child M ↦ enter_child_rows None c M x s >>=
          (λ r. followed_rows (plain_next_rows book text c j rest items) r)
      | Taken.optional M ↦ or_absent_rows c j M rest (steps_rows c j rest) x items s
      | Taken.list comma M close y ↦ listing_rows c j comma M close rest (steps_rows c j rest) y items s
      | Taken.unopened y ↦ makes (make text Cell.empty) s >>=
          (λ e. stops_rows book text j e.cell None (steps_rows c j rest) y items e.state)
      | Taken.names close M y ↦ makes (make text Cell.empty) s >>=
          (λ e. name_choice_rows c j [] e.cell close M rest y items e.state)
      | Taken.body M ↦ makes (make text Cell.absent) s >>=
          (λ a. body_rows None c j M a.cell rest x items a.state)
    ]

module _ (book : Book) (text : List ℕ) where
  -- a runner with so many levels of nesting left
  unfoldable pub runner_rows : ℕ → Option RowRunner
  runner_rows zero = None
  runner_rows (suc n) = Some (steps_rows book text (runner_rows n) n)
