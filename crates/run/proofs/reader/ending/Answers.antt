-- `run::ending` meets its contract.
use Rattle.std.proofs.Common.{◌≡◌, ◌∙◌, ap, refl, Ok, Err, Some, None}
use Rattle.transitions.specs.OutcomeLaws.{number_there}
use Rattle.transitions.specs.Results.{outcome_of}
use Rattle.run.specs.ReadingLaws.{end_limit, end_failed, end_found}
use Rattle.run.proofs.reader.ending.Goals as goal

pub returns-in-Err : goal.returns-in-Err
returns-in-Err c =
    rw c.in-Err.is (end_limit _ _ _ _ _ _ _ _ _ (outcome_of (Err c.in-Err.limit) c.args.state) c.at_end.result
    c.saturating_sub-work.ensures (number_there _) c.clear_lists.ensures (rw c.number.ensures at c.at_end.ensures))

pub returns-in-Ok-Some : goal.returns-in-Ok-Some
returns-in-Ok-Some c =
    let same : c.in-Ok-Some.field-0 ≡ Some c.in-Ok-Some.e = rw c.in-Ok-Some.is at c.in-Ok-Some.field-0-is in
    let is : c.args.found ≡ Ok (Some c.in-Ok-Some.e) = c.in-Ok-Some.is ∙ ap Ok same in
    rw is (end_failed _ _ _ _ _ _ _ _ _ (outcome_of (Ok (Some c.in-Ok-Some.e)) c.args.state)
    c.failed.result c.saturating_sub-work.ensures _ refl refl c.clear_lists-in-Ok-Some.ensures c.failed.ensures)

pub returns-in-Ok-None : goal.returns-in-Ok-None
returns-in-Ok-None c =
    let same : c.in-Ok-None.field-0 ≡ None = rw c.in-Ok-None.is at c.in-Ok-None.field-0-is in
    let is : c.args.found ≡ Ok None = c.in-Ok-None.is ∙ ap Ok same in
    rw is (end_found _ _ _ _ _ _ _ _ _ (outcome_of (Ok None) c.args.state) c.by_values.result
    c.saturating_sub-work.ensures _ _ refl refl (rw is at c.requires).2 c.fill_lists.ensures
    c.whole_values-values.ensures c.parse_count-number.ensures.count c.by_values.ensures)
