-- What the cycle's functions ask and equal. Scaffolding: no definition of document 01.
--
-- First what the model of the crate run_model has no function of its own for; then what the contracts ask (CanRun,
-- OnPath, OnNames) and which part of the model each function is; then the measure's rank.
use Rattle.std.specs.Prelude.{◌≡◌, List, ℕ, ◌+◌, ◌≤◌, ◌<◌, leb, length}
use Rattle.std.specs.Prelude.{Option, None}
use Rattle.characters.specs.Slices.{Slice}
use Rattle.book.specs.Numbers.{largest_byte}
use Rattle.book.specs.Book.{Book, nth_variant}
use Rattle.semantics.specs.Numbers.{most_nesting, most_rounds}
use Rattle.semantics.specs.Tokens.{when}
use Rattle.semantics.specs.Steps.{Todo, todo_of}
use Rattle.semantics.specs.Errors.{Error, join_with}
use Rattle.semantics.specs.Run.{Result, ok, ◌>>=◌, begin, counted}
use Rattle.run_model.specs.Rows.{row_of}
use Rattle.run_model.specs.Model.{RowState, Outcome, outcome, RowRunner, makes, at_row, bare_call, take_variant}
use Rattle.run_model.specs.Model.{followed_rows, or_child, opens_rows, declares_rows, name_choice_rows}
use Rattle.run_model.specs.Model.{one_run_rows, rounds_rows, run_call_rows, enter_rows, runner_rows}
use Rattle.errors.specs.Maps.{failure_of}
use Rattle.std.specs.Prelude as std
use Rattle.transitions.specs.Results as code
use Rattle.transitions.specs.declared.outcomes.Ended.{Ended}
use Rattle.transitions.specs.declared.stages.Stage as stage
use Rattle.transitions.specs.declared.stages.Doing.{Doing}
use Rattle.transitions.specs.declared.stages.Names.{Names}
use Rattle.transitions.specs.declared.stages.Next.{Next}
use Rattle.transitions.specs.declared.stages.Progress.{Progress}
use Rattle.transitions.specs.Outcomes.{failure_at}
use Rattle.transitions.specs.Names.{names_at}
use Rattle.transitions.specs.Entering.{inner_runner}
use Rattle.transitions.specs.Steps.{todo_from, next_rows, first_side_rows, descends_rows, resumes}
use Rattle.transitions.specs.LayerContracts.{Fitting, FromState, FromResult}

-- a path's row is one of the table, and its steps are some of the book's, no more than a byte can say
abbrev pub InRange : Book → Progress → Type 0
InRange book here =
    (here.call ≤ most_nesting) × (here.remaining ≤ largest_byte) × (here.step + here.remaining ≤ length book.steps)

-- the steps that are left
abbrev pub todo_at : Book → Progress → List (Todo ℕ)
todo_at book here = todo_from book here.step here.remaining

-- a path, some steps further
abbrev pub further : Progress → ℕ → ℕ → ℕ → ℕ → Progress
further from step remaining place items =
    record {
      call = from.call;
      variant = from.variant;
      step = step;
      remaining = remaining;
      place = place;
      items = items;
    }

-- one variant, after those before it failed with e; `variants_rows` are these one after the other
unfoldable pub variant_rows : Book → List ℕ → RowRunner → ℕ → ℕ → ℕ → Option Error → RowState → Result Outcome
variant_rows book text run c m j e s =
    let r = row_of s.rows c in
    when (leb m (nth_variant book j).level)
    (λ _.
    makes (begin book text j) s >>= (λ b.
    run c j (todo_of book (nth_variant book j)) r.start b.cell (at_row c (take_variant book text j) b.state) >>=
    (λ o.
    ok (outcome (join_with e (counted book text (bare_call r.nonterminal r.start) j o.failure)) o.state))))
    (λ _. ok (outcome e s))

-- what follows the parses of a child
unfoldable pub follows_rows : Book → List ℕ → Option RowRunner → ℕ → ℕ → ℕ → List (Todo ℕ) → Next → ℕ →
    Result Outcome → Result Outcome
follows_rows book text inner n c j rest next items z =
    z >>= (λ o. followed_rows book text inner n (next_rows book text c j rest next items) o)

-- both sides of a choice, whatever the nonterminal of the other side
unfoldable pub both_sides_rows : Book → List ℕ → Option RowRunner → ℕ → ℕ → ℕ → List (Todo ℕ) → Next → ℕ → ℕ → ℕ →
    RowState → Result Outcome
both_sides_rows book text inner n c j rest next M x items s =
    first_side_rows book text inner n c j rest next x items s >>=
    (λ a. or_child book text inner n c M (next_rows book text c j rest next items) x a)

-- ---- What the contracts ask
-- the call of row n, which has its level of nesting
abbrev pub CanRun : Book → Slice → ℕ → Type 0
CanRun book text n = (n ≤ most_nesting) × Fitting book text × (0 < n)

-- a path, with n levels of nesting left
abbrev pub OnPath : Book → Slice → ℕ → Progress → Type 0
OnPath book text n here = (n ≤ most_nesting) × Fitting book text × InRange book here × (n < here.call)

-- and with the names of an opening, each of which took a level
abbrev pub OnNames : Book → Slice → ℕ → Progress → Names → Type 0
OnNames book text n here names = OnPath book text n here × (names.count + n ≤ most_nesting)

-- ---- Which part of the model each function is
module _ (n : ℕ) where
  abbrev pub enters : ℕ → ℕ → ℕ → FromState
  enters binder N u book text s = enter_rows book text (runner_rows book text n) n binder N u s

  abbrev pub runs_call : ℕ → ℕ → ℕ → ℕ → FromState
  runs_call binder N u m book text s = run_call_rows book text (inner_runner book text n) n binder N u m s

  abbrev pub runs_again : ℕ → FromState
  runs_again m book text s = rounds_rows book text most_rounds (inner_runner book text n) n m s

  abbrev pub runs_once : ℕ → FromState
  runs_once m book text s = one_run_rows book text (inner_runner book text n) n m s

  -- variant j, after the outcome of those before it
  abbrev pub tries : ℕ → ℕ → code.Outcome → FromState
  tries m j before book text s = variant_rows book text (inner_runner book text n) n m j
      (failure_of (failure_at before)) s

  module _ (here : Progress) where
    abbrev pub descends : Next → ℕ → FromState
    descends next N book text s =
        descends_rows book text (runner_rows book text n) n here.call here.variant (todo_at book here) None next N
        here.place here.items s

    abbrev pub follows_each : Next → FromResult
    follows_each next book text z =
        follows_rows book text (runner_rows book text n) n here.call here.variant (todo_at book here) next
        here.items z

    abbrev pub chooses : Next → ℕ → FromState
    chooses next N book text s =
        both_sides_rows book text (runner_rows book text n) n here.call here.variant (todo_at book here) next N
        here.place here.items s

    abbrev pub proceeds : Doing → FromResult
    proceeds first book text z =
        resumes book text (runner_rows book text n) n here.call here.variant (todo_at book here) first here.place
        here.items z

    -- from what a part of the path came to
    abbrev pub resumes_from : code.Stage → FromResult
    resumes_from g book text z =
        resumes book text (runner_rows book text n) n here.call here.variant (todo_at book here) g.doing g.place
        g.items z

    -- the names are those of the rows
    module _ (names : Names) where
      abbrev pub closes_names : FromState
      closes_names book text s =
          opens_rows book text (runner_rows book text n) n here.call here.variant
          (names_at text s.rows n names.count) names.kinds names.closing names.body (todo_at book here)
          here.place here.items s

      abbrev pub declares_one : FromState
      declares_one book text s =
          declares_rows book text (runner_rows book text n) n here.call here.variant
          (names_at text s.rows n names.count) names.kinds names.closing names.body (todo_at book here)
          here.place here.items s

      abbrev pub chooses_names : FromState
      chooses_names book text s =
          name_choice_rows book text (runner_rows book text n) n here.call here.variant
          (names_at text s.rows n names.count) names.kinds names.closing names.body (todo_at book here)
          here.place here.items s

-- ---- The measure
-- a path that is to do something else before the steps left is further from its end
abbrev pub rank_of : Doing → ℕ
rank_of Doing.Steps = 0
rank_of (Doing.Child M) = 4
rank_of (Doing.Optional M) = 4
rank_of (Doing.Elements l) = 4

-- a path that has ended does nothing else
abbrev pub rank_begun : std.Result stage.Stage Ended → ℕ
rank_begun (std.Ok g) = rank_of g.doing
rank_begun (std.Err e) = 0
