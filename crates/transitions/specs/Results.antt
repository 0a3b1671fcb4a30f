-- What the code's results stand for: records that say of each outcome the limit that was met, or 0, the failure and the
-- state. The laws speak of these records. Scaffolding: no definition of document 01.
use Rattle.std.specs.Prelude.{Bool, true, false, ℕ, Option, None, Some}
use Rattle.std.specs.Prelude as std
use Rattle.errors.specs.Maps.{Failure}
use Rattle.errors.specs.declared.Error.{Error}
use Rattle.transitions.specs.declared.outcomes.Limit.{Limit}
use Rattle.transitions.specs.declared.outcomes.State.{State}
use Rattle.transitions.specs.declared.outcomes.Ended.{Ended}
use Rattle.transitions.specs.declared.entering.Entered as entering
use Rattle.transitions.specs.declared.runs.RunEnd as runs
use Rattle.transitions.specs.declared.names.Named as names
use Rattle.transitions.specs.declared.stages.Doing.{Doing}
use Rattle.transitions.specs.declared.stages.Reached as stages
use Rattle.transitions.specs.declared.stages.Stage as stages_on

-- ---- The records
-- a limit or 0; whether there is a failure, and it
pub record Outcome : Type 0 where
  pub limit : ℕ
  pub failed : ℕ
  pub state : State
  pub error : Error

-- a cell that was asked for, or the limit
pub record CellOutcome : Type 0 where
  pub limit : ℕ
  pub cell : ℕ
  pub state : State

-- how a part ended and, where neither a limit nor a failure ended it, the place reached and the items so far
pub record Reached : Type 0 where
  pub outcome : Outcome
  pub place : ℕ
  pub items : ℕ

-- the same, and what the path does next
pub record Stage : Type 0 where
  pub outcome : Outcome
  pub place : ℕ
  pub items : ℕ
  pub doing : Doing

-- the same of a name: the place behind it, the chain of the kinds, and whether a comma came behind it
pub record Named : Type 0 where
  pub outcome : Outcome
  pub place : ℕ
  pub kinds : ℕ
  pub comma : Bool

-- a use up to its runs: it is to be run, with a minimum, or over
pub record Entered : Type 0 where
  pub runs : Bool
  pub minimum : ℕ
  pub outcome : Outcome

-- how a call stands after a run: it is to be run again, or it is over
pub record RunEnd : Type 0 where
  pub again : Bool
  pub outcome : Outcome

-- ---- Outcomes
-- the documents' numbers of the limits
abbrev pub limit_number : Limit → ℕ
limit_number Limit.NoUnit = 20
limit_number Limit.TooDeep = 21
limit_number Limit.TooManyParses = 22
limit_number Limit.TooManyCells = 23
limit_number Limit.TooManyNames = 41

-- what stands for an error where there is none
abbrev pub no_error : Error
no_error = record { place = 0; kind = 0; argument = 0 }

abbrev pub failed_by : Failure → ℕ
failed_by None = 0
failed_by (Some e) = 1

abbrev pub error_by : Failure → Error
error_by None = no_error
error_by (Some e) = e

-- without a failure, of the limit that was met or 0; and of a failure or none
abbrev pub without_failure : ℕ → State → Outcome
without_failure limit s = record { limit = limit; failed = 0; state = s; error = no_error }

abbrev pub done_with : Failure → State → Outcome
done_with failure s = record { limit = 0; failed = failed_by failure; state = s; error = error_by failure }

-- ---- The code's results, with the state that they leave
abbrev pub outcome_of : std.Result (Option Error) Limit → State → Outcome
outcome_of (std.Ok failure) s = done_with failure s
outcome_of (std.Err limit) s = without_failure (limit_number limit) s

abbrev pub spent_of : std.Result Unit Limit → State → Outcome
spent_of (std.Ok u) s = without_failure 0 s
spent_of (std.Err limit) s = without_failure (limit_number limit) s

abbrev pub cell_of : std.Result ℕ Limit → State → CellOutcome
cell_of (std.Ok cell) s = record { limit = 0; cell = cell; state = s }
cell_of (std.Err limit) s = record { limit = limit_number limit; cell = 0; state = s }

abbrev pub ended_of : Ended → State → Outcome
ended_of (Ended.AtLimit limit) s = without_failure (limit_number limit) s
ended_of (Ended.Failed e) s = done_with (Some e) s

abbrev pub reached_of : std.Result stages.Reached Ended → State → Reached
reached_of (std.Ok r) s = record { outcome = without_failure 0 s; place = r.place; items = r.items }
reached_of (std.Err e) s = record { outcome = ended_of e s; place = 0; items = 0 }

-- the items so far at a place
abbrev pub reached_at : std.Result ℕ Limit → ℕ → State → Reached
reached_at (std.Ok items) place s = record { outcome = without_failure 0 s; place = place; items = items }
reached_at (std.Err limit) place s =
    record { outcome = without_failure (limit_number limit) s; place = 0; items = 0 }

abbrev pub stage_of : std.Result stages_on.Stage Ended → State → Stage
stage_of (std.Ok g) s = record { outcome = without_failure 0 s; place = g.place; items = g.items; doing = g.doing }
stage_of (std.Err e) s = record { outcome = ended_of e s; place = 0; items = 0; doing = Doing.Steps }

-- a stage that no failure ends, at a place and with what comes next
abbrev pub stage_with : std.Result stages_on.Stage Limit → State → Stage
stage_with (std.Ok g) s = record { outcome = without_failure 0 s; place = g.place; items = g.items; doing = g.doing }
stage_with (std.Err limit) s =
    record { outcome = without_failure (limit_number limit) s; place = 0; items = 0; doing = Doing.Steps }

abbrev pub named_of : std.Result names.Named Ended → State → Named
named_of (std.Ok n) s =
    record { outcome = without_failure 0 s; place = n.place; kinds = n.kinds; comma = n.comma }
named_of (std.Err e) s = record { outcome = ended_of e s; place = 0; kinds = 0; comma = false }

abbrev pub entered_of : std.Result entering.Entered Limit → State → Entered
entered_of (std.Ok (entering.Entered.Runs m)) s =
    record { runs = true; minimum = m; outcome = without_failure 0 s }
entered_of (std.Ok (entering.Entered.Over failure)) s =
    record { runs = false; minimum = 0; outcome = done_with failure s }
entered_of (std.Err limit) s =
    record { runs = false; minimum = 0; outcome = without_failure (limit_number limit) s }

abbrev pub end_of : std.Result runs.RunEnd Limit → State → RunEnd
end_of (std.Ok runs.RunEnd.Again) s = record { again = true; outcome = without_failure 0 s }
end_of (std.Ok (runs.RunEnd.Over failure)) s = record { again = false; outcome = done_with failure s }
end_of (std.Err limit) s = record { again = false; outcome = without_failure (limit_number limit) s }
