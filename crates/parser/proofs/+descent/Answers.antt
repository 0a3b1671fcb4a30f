-- The functions of the cycle meet their contracts: `call`, `enter`, `rounds` of left_recursion.rt, `choose`, `close`,
-- `declare` of names.rt and `choice`, `descend`, `follow`, `one_run`, `steps`, `variant` of parser.rt. Each return and
-- each turn of a loop is one law of specs/CallLaws, VariantLaws, ChildLaws, NameLaws or PathLaws, applied to what was
-- called before it.
use Rattle.std.proofs.Common.{arith, rules, refl, sym, ◌∙◌}
use Rattle.std.proofs.Math.Nat.{sub-zero}
use Rattle.std.proofs.lemmas.Result.{err_from_is_err_and}
use Rattle.calls.specs.TableLaws.{table_length}
use Rattle.calls.specs.Lent.{table_in}
use Rattle.parser.specs.PathLaws.{choice_stopped, choice_both, path_ended, path_child, path_optional, path_elements}
use Rattle.parser.specs.PathLaws.{path_names, path_end, path_step, rank_few, resume_ended}
use Rattle.parser.specs.NameLaws.{names_binder, close_ended, close_body, declare_unpaid, declare_deep, declare_ended}
use Rattle.parser.specs.NameLaws.{declare_more, declare_last, names_unpaid, names_stopped, names_both}
use Rattle.parser.specs.ChildLaws.{descended, follow_ended, follow_whole, follow_end, follow_deep, follow_stop}
use Rattle.parser.specs.ChildLaws.{follow_again}
use Rattle.parser.specs.VariantLaws.{variants_end, variants_stop, variants_again, one_run_whole, variant_skipped}
use Rattle.parser.specs.VariantLaws.{variant_ran}
use Rattle.parser.specs.CallLaws.{enter_over, enter_runs, run_call_over, run_call_rounds, rounds_none, rounds_over}
use Rattle.parser.specs.CallLaws.{rounds_again}
use Rattle.transitions.specs.Results.{done_with, without_failure, limit_number}
use Rattle.transitions.specs.OutcomeLaws.{number_there}
use Rattle.transitions.specs.LimitLaws.{ended_stops, goes_done, limit_stops_path, failure_stops, nothing_goes}
use Rattle.transitions.specs.LimitLaws.{side_steps}
use Rattle.transitions.specs.EndingLaws.{variant_limit}
use Rattle.parser.proofs.+descent.Goals as goal

pub left_recursion::call-returns-in_err-failure : goal.left_recursion::call-returns-in_err-failure
left_recursion::call-returns-in_err-failure t c =
    record {
      does = let p = err_from_is_err_and c.from_residual.result c.from_residual.ensures.1 in
          rw (p.1, p.2)
          (run_call_over _ _ _ _ _ _ _ _ _ _ _ _ _ _ _ _ _ c.open_call.ensures.0 c.one_run-outcome.ensures.does
          (rw c.in_err-failure.was at (c.after_first.ensures.ends c.one_run-outcome.new.state)) refl);
      slice = c.after_first.ensures.slice ∙ c.one_run-outcome.ensures.slice ∙ c.open_call.ensures.1;
    }

pub left_recursion::call-returns-in-Over : goal.left_recursion::call-returns-in-Over
left_recursion::call-returns-in-Over t c =
    record {
      does = run_call_over _ _ _ _ _ _ _ _ _ _ _ _ _ _ _ _ _ c.open_call.ensures.0 c.one_run-outcome.ensures.does
          (rw c.in-Over.is at (rw c.in_ok-failure.was at (c.after_first.ensures.ends c.one_run-outcome.new.state)))
          refl;
      slice = c.after_first.ensures.slice ∙ c.one_run-outcome.ensures.slice ∙ c.open_call.ensures.1;
    }

pub left_recursion::call-returns-in-Again : goal.left_recursion::call-returns-in-Again
left_recursion::call-returns-in-Again t c =
    record {
      does = run_call_rounds _ _ _ _ _ _ _ _ _ _ _ _ _ _ _ _ _ c.open_call.ensures.0 c.one_run-outcome.ensures.does
          (rw c.in-Again.is at (rw c.in_ok-failure.was at (c.after_first.ensures.ends c.one_run-outcome.new.state)))
          _ _ _ refl c.rounds.ensures.does;
      slice = c.rounds.ensures.slice ∙ c.after_first.ensures.slice ∙ c.one_run-outcome.ensures.slice ∙
          c.open_call.ensures.1;
    }

pub left_recursion::enter-returns-in_err-failure : goal.left_recursion::enter-returns-in_err-failure
left_recursion::enter-returns-in_err-failure t c =
    record {
      does = let p = err_from_is_err_and c.from_residual.result c.from_residual.ensures.1 in
          rw (p.1, p.2)
          (enter_over _ _ _ _ _ _ _ _ _ _ _ _ (rw c.in_err-failure.was at c.begin_use.ensures.begins) refl);
      slice = c.begin_use.ensures.slice;
    }

pub left_recursion::enter-returns-in-Over : goal.left_recursion::enter-returns-in-Over
left_recursion::enter-returns-in-Over t c =
    record {
      does = enter_over _ _ _ _ _ _ _ _ _ _ _ _ (rw c.in-Over.is at (rw c.in_ok-failure.was at
          c.begin_use.ensures.begins)) refl;
      slice = c.begin_use.ensures.slice;
    }

pub left_recursion::enter-returns-in-Runs : goal.left_recursion::enter-returns-in-Runs
left_recursion::enter-returns-in-Runs t c =
    record {
      does = enter_runs _ _ _ _ _ _ _ _ _ _ _ _ (rw c.in-Runs.is at (rw c.in_ok-failure.was at
          c.begin_use.ensures.begins))
          _ _ _ refl c.call.ensures.does;
      slice = c.call.ensures.slice ∙ c.begin_use.ensures.slice;
    }

pub left_recursion::rounds-returns-in_err-failure : goal.left_recursion::rounds-returns-in_err-failure
left_recursion::rounds-returns-in_err-failure t c =
    record {
      does = let p = err_from_is_err_and c.from_residual.result c.from_residual.ensures.1 in
          rw (p.1, p.2)
          (rounds_over _ _ _ _ _ _ _ _ _ _ _ _ c.loop-round.invariant.left _ _ _ _ _ c.loop-round-test.true
          c.one_run-outcome.ensures.does
          (rw c.in_err-failure.was at (c.after_round.ensures.ends c.one_run-outcome.new.state)) refl);
      slice = c.after_round.ensures.slice ∙ c.one_run-outcome.ensures.slice ∙ c.loop-round.invariant.same;
    }

pub left_recursion::rounds-returns-in-Over : goal.left_recursion::rounds-returns-in-Over
left_recursion::rounds-returns-in-Over t c =
    record {
      does = rounds_over _ _ _ _ _ _ _ _ _ _ _ _ c.loop-round.invariant.left _ _ _ _ _ c.loop-round-test.true
          c.one_run-outcome.ensures.does
          (rw c.in-Over.is at (rw c.in_ok-failure.was at (c.after_round.ensures.ends c.one_run-outcome.new.state)))
          refl;
      slice = c.after_round.ensures.slice ∙ c.one_run-outcome.ensures.slice ∙ c.loop-round.invariant.same;
    }

pub left_recursion::rounds-loop-round-preserved : goal.left_recursion::rounds-loop-round-preserved
left_recursion::rounds-loop-round-preserved t c =
    record {
      few = omega (arith, c.loop-round-test.true);
      left =
          rounds_again _ _ _ _ _ _ _ _ _ _ _ _ c.loop-round.invariant.left _ _ _ _ _ c.loop-round-test.true
          c.one_run-outcome.ensures.does
          (rw c.in-Again.is at (rw c.in_ok-failure.was at (c.after_round.ensures.ends c.one_run-outcome.new.state)))
          refl;
      same = c.after_round.ensures.slice ∙ c.one_run-outcome.ensures.slice ∙ c.loop-round.invariant.same;
    }

pub left_recursion::rounds-returns : goal.left_recursion::rounds-returns
left_recursion::rounds-returns t c =
    record {
      does = rounds_none _ _ _ _ _ _ _ _ _ _ _ _ c.loop-round.invariant.left _ refl c.loop-round-test.false;
      slice = c.loop-round.invariant.same;
    }

pub names::choose-returns-in_err-spend : goal.names::choose-returns-in_err-spend
names::choose-returns-in_err-spend t c =
    record {
      does = let p = err_from_is_err_and c.from_residual.result c.from_residual.ensures.1 in
          rw (p.1, p.2)
          (names_unpaid _ _ _ c.args.here _ _ _ _ _ _ (rw c.in_err-spend.was at c.spend.ensures) (number_there _));
      slice = refl;
    }

pub names::choose-returns-in_err-first : goal.names::choose-returns-in_err-first
names::choose-returns-in_err-first t c =
    record {
      does = let p = err_from_is_err_and c.from_residual-in_err-first.result c.from_residual-in_err-first.ensures.1 in
          rw (p.1, p.2)
          (names_stopped _ _ _ c.args.here _ _ _ _ _ _ (rw c.in_ok-spend.was at c.spend.ensures) refl _ _ _
          (rw c.in_err-first.was at c.close.ensures.does) (number_there _));
      slice = c.close.ensures.slice;
    }

pub names::choose-returns : goal.names::choose-returns
names::choose-returns t c =
    record {
      does = names_both _ _ _ c.args.here _ _ _ _ _ _ (rw c.in_ok-spend.was at c.spend.ensures) refl _ _ _
          (rw c.in_ok-first.was at c.close.ensures.does) refl c.requires.0.3 c.requires.0.2.0 (table_length _)
          _ _ _ _ c.declare-second.ensures.does (rw c.shared.ensures at (c.both_sides.ensures.does c.close.new.state
          c.declare-second.new.state));
      slice = c.declare-second.ensures.slice ∙ c.close.ensures.slice;
    }

pub names::close-returns-in-Err : goal.names::close-returns-in-Err
names::close-returns-in-Err t c =
    record {
      does = rw (c.outcome.ensures c.open_body.new.state)
          (close_ended _ _ _ _ _ _ _ _ _ _ _ (rw c.in-Err.is at (rw c.shared.ensures at c.open_body.ensures))
          (ended_stops _ _));
      slice = refl;
    }

pub names::close-returns : goal.names::close-returns
names::close-returns t c =
    record {
      does = close_body _ _ _ _ _ _ _ _ _ _ _ (rw c.in-Ok.is at (rw c.shared.ensures at c.open_body.ensures))
          (goes_done _) _ _ _
          (descended _ _ _ _ _ _ _ _ _ _ _ _ _ _ _ _ _ _ _ _ _ _ _ _ (names_binder c.args.text.now (table_in
          c.args.rows.now)
          c.args.free c.args.names.count _ c.args.here.call c.body_binder-binder.ensures)
          c.begin_child-at.ensures.begins
          c.enter-child.ensures.does c.follow.ensures.continues);
      slice = c.follow.ensures.slice ∙ c.enter-child.ensures.slice ∙ c.begin_child-at.ensures.slice;
    }

pub names::declare-returns-in_err-spend : goal.names::declare-returns-in_err-spend
names::declare-returns-in_err-spend t c =
    record {
      does = let p = err_from_is_err_and c.from_residual.result c.from_residual.ensures.1 in
          rw (p.1, p.2)
          (declare_unpaid _ _ _ c.args.here _ _ _ _ _ _ (rw c.in_err-spend.was at c.spend.ensures) (number_there _));
      slice = refl;
    }

pub names::declare-returns-then-free-eq0 : goal.names::declare-returns-then-free-eq0
names::declare-returns-then-free-eq0 t c =
    record {
      does = declare_deep _ _ _ c.args.here _ _ _ _ _ _ (rw c.in_ok-spend.was at c.spend.ensures) refl _
          c.if-free-eq0.true refl;
      slice = refl;
    }

pub names::declare-returns-in-Err : goal.names::declare-returns-in-Err
names::declare-returns-in-Err t c =
    record {
      does = rw (c.outcome.ensures c.declare_name.new.state)
          (declare_ended _ _ _ c.args.here _ _ _ _ _ _ (rw c.in_ok-spend.was at c.spend.ensures) refl
          c.if-free-eq0.false _
          _ _
          (rw c.in-Err.is at c.declare_name.ensures.declares) (ended_stops _ _));
      slice = c.declare_name.ensures.slice;
    }

pub names::declare-returns-then-name : goal.names::declare-returns-then-name
names::declare-returns-then-name t c =
    record {
      does = declare_more _ _ _ c.args.here _ _ _ _ _ _ (rw c.in_ok-spend.was at c.spend.ensures) refl
          c.if-free-eq0.false _ _ _
          (rw c.in-Ok.is at c.declare_name.ensures.declares) (goes_done _) _ _ _
          c.if-name.true c.choose.ensures.does;
      slice = c.choose.ensures.slice ∙ c.declare_name.ensures.slice;
    }

pub names::declare-returns-else-name : goal.names::declare-returns-else-name
names::declare-returns-else-name t c =
    record {
      does = declare_last _ _ _ c.args.here _ _ _ _ _ _ (rw c.in_ok-spend.was at c.spend.ensures) refl
          c.if-free-eq0.false _ _ _
          (rw c.in-Ok.is at c.declare_name.ensures.declares) (goes_done _) _ _ _
          c.if-name.false c.close.ensures.does;
      slice = c.close.ensures.slice ∙ c.declare_name.ensures.slice;
    }

pub parser::choice-returns-in_err-first : goal.parser::choice-returns-in_err-first
parser::choice-returns-in_err-first t c =
    record {
      does = let p = err_from_is_err_and c.from_residual.result c.from_residual.ensures.1 in
          rw (p.1, p.2)
          (choice_stopped _ _ _ _ _ _ _ _ _ _ _ _ _ _ _ _ _ _ _ (rw (side_steps c.first_side-begun.result
          c.first_side-begun.new.state c.first_side-begun.ensures.steps) at
          c.first_side-begun.ensures.does)
          (rw (side_steps c.first_side-begun.result c.first_side-begun.new.state c.first_side-begun.ensures.steps) at
          (rw c.in_err-first.was at c.steps.ensures.continues)) (number_there _));
      slice = c.steps.ensures.slice;
    }

pub parser::choice-returns : goal.parser::choice-returns
parser::choice-returns t c =
    record {
      does = choice_both _ _ _ _ _ _ _ _ _ _ _ _ _ _ _ _ _ _ _ (rw (side_steps c.first_side-begun.result
          c.first_side-begun.new.state c.first_side-begun.ensures.steps) at
          c.first_side-begun.ensures.does)
          (rw (side_steps c.first_side-begun.result c.first_side-begun.new.state c.first_side-begun.ensures.steps) at
          (rw c.in_ok-first.was at c.steps.ensures.continues)) refl _ _ _ _ c.descend-second.ensures.does
          (rw c.shared.ensures at (c.both_sides.ensures.does c.steps.new.state c.descend-second.new.state));
      slice = c.descend-second.ensures.slice ∙ c.steps.ensures.slice;
    }

pub parser::descend-returns : goal.parser::descend-returns
parser::descend-returns t c =
    record {
      does = descended _ _ _ _ _ _ _ _ _ _ _ _ _ _ _ _ _ _ _ _ _ _ _ _ (rw c.shared.ensures at
          c.inherited_binder-binder.ensures) c.begin_child-at.ensures.begins
          c.enter-child.ensures.does c.follow.ensures.continues;
      slice = c.follow.ensures.slice ∙ c.enter-child.ensures.slice ∙ c.begin_child-at.ensures.slice;
    }

pub parser::follow-returns-in_err-failure : goal.parser::follow-returns-in_err-failure
parser::follow-returns-in_err-failure t c =
    record {
      continues = let p = err_from_is_err_and c.from_residual.result c.from_residual.ensures.1 in
          rw (p.1, p.2, c.in_err-failure.was) (follow_ended _ _ _ _ _ _ _ _ _ _ _ _ (limit_stops_path _ _));
      slice = refl;
    }

pub parser::follow-returns-then-is_some : goal.parser::follow-returns-then-is_some
parser::follow-returns-then-is_some t c =
    record {
      continues = rw c.in_ok-failure.was
          (follow_ended _ _ _ _ _ _ _ _ _ _ _ _ (failure_stops _ _ (sym c.is_some.ensures ∙ c.if-is_some.true)));
      slice = refl;
    }

pub parser::follow-loop-i-init : goal.parser::follow-loop-i-init
parser::follow-loop-i-init t c =
    record {
      few = search rules;
      left = λ held. record { held = held; is = rw sub-zero };
      same = refl;
    }

pub parser::follow-returns-then-free-eq0 : goal.parser::follow-returns-then-free-eq0
parser::follow-returns-then-free-eq0 t c =
    record {
      continues = rw c.in_ok-failure.was
          (follow_whole _ _ _ _ _ _ _ _ _ _ _ _ _ _ _ _ (nothing_goes _ _ (sym c.is_some.ensures ∙
          c.if-is_some.false))
          (rw c.shared.ensures at c.parse_count-parses.ensures.count) (follow_deep _ _ _ _ _ _ _ _ _ _ _ _ _ _
          (table_in c.loop-i.rows) (done_with c.loop-i.all
          c.loop-i.state) c.loop-i.invariant.left
          _ refl c.loop-i-test.true c.if-free-eq0.true));
      slice = c.loop-i.invariant.same;
    }

pub parser::follow-returns-in_err-all : goal.parser::follow-returns-in_err-all
parser::follow-returns-in_err-all t c =
    record {
      continues = let p = err_from_is_err_and c.from_residual-in_err-all.result
          c.from_residual-in_err-all.ensures.1 in
          rw (p.1, p.2, c.in_ok-failure.was)
          (follow_whole _ _ _ _ _ _ _ _ _ _ _ _ _ _ _ _ (nothing_goes _ _ (sym c.is_some.ensures ∙ c.if-is_some.false))
          (rw c.shared.ensures at c.parse_count-parses.ensures.count) (follow_stop _ _ _ _ _ _ _ _ _ _ _ _ _ _
          (table_in c.loop-i.rows) (done_with c.loop-i.all
          c.loop-i.state) c.loop-i.invariant.left c.loop-i-test.true c.if-free-eq0.false _ (rw
          c.shared-in-loop-i.ensures at c.nth_parse-q.ensures) _ _ _ _ _ _
          c.next_of-begun.ensures c.steps-outcome.ensures.continues
          (rw c.in_err-all.was at (c.after_parse.ensures.does c.loop-i.state c.steps-outcome.new.state)) (number_there
          _)));
      slice = c.steps-outcome.ensures.slice ∙ c.loop-i.invariant.same;
    }

pub parser::follow-loop-i-preserved : goal.parser::follow-loop-i-preserved
parser::follow-loop-i-preserved t c =
    record {
      few = omega (arith, c.loop-i-test.true);
      left = follow_again _ _ _ _ _ _ _ _ _ _ _ _ _ _ (table_in c.loop-i.rows) (done_with c.loop-i.all c.loop-i.state)
          c.loop-i.invariant.left c.loop-i-test.true c.if-free-eq0.false _ (rw c.shared-in-loop-i.ensures at
          c.nth_parse-q.ensures) _ _ _ _ _ _
          c.next_of-begun.ensures c.steps-outcome.ensures.continues
          (rw c.in_ok-all.was at (c.after_parse.ensures.does c.loop-i.state c.steps-outcome.new.state)) refl;
      same = c.steps-outcome.ensures.slice ∙ c.loop-i.invariant.same;
    }

pub parser::follow-returns : goal.parser::follow-returns
parser::follow-returns t c =
    record {
      continues = rw c.in_ok-failure.was
          (follow_whole _ _ _ _ _ _ _ _ _ _ _ _ _ _ _ _ (nothing_goes _ _ (sym c.is_some.ensures ∙
          c.if-is_some.false))
          (rw c.shared.ensures at c.parse_count-parses.ensures.count) (follow_end _ _ _ _ _ _ _ _ _ _ _ _ _ _
          (table_in c.loop-i.rows) (done_with c.loop-i.all
          c.loop-i.state) c.loop-i.invariant.left c.loop-i-test.false refl));
      slice = c.loop-i.invariant.same;
    }

pub parser::one_run-returns-in_err-failure : goal.parser::one_run-returns-in_err-failure
parser::one_run-returns-in_err-failure t c =
    record {
      does = let p = err_from_is_err_and c.from_residual.result c.from_residual.ensures.1 in
          rw (p.1, p.2)
          (one_run_whole _ _ _ _ _ _ _ _ _ _ _ _ _ _ _ (rw c.shared.ensures at c.nonterminal_of-nonterminal.ensures)
          c.clear_run.ensures.0
          c.nonterminal-called.ensures refl (variants_stop _ _ _ _ _ _ _ _ _ _ _ _ (table_in c.loop-k.rows) (done_with
          c.loop-k.failure c.loop-k.state) c.loop-k.invariant.left c.loop-k-test.true
          _ refl _ _ _ (rw c.in_err-failure.was at c.variant.ensures.does) (number_there _)));
      slice = c.variant.ensures.slice ∙ c.loop-k.invariant.same ∙ c.clear_run.ensures.1;
    }

pub parser::one_run-loop-k-preserved : goal.parser::one_run-loop-k-preserved
parser::one_run-loop-k-preserved t c =
    record {
      few = omega (arith, c.loop-k-test.true);
      left = variants_again _ _ _ _ _ _ _ _ _ _ _ _ (table_in c.loop-k.rows) (done_with c.loop-k.failure c.loop-k.state)
          c.loop-k.invariant.left c.loop-k-test.true
          _ refl _ _ _ (rw c.in_ok-failure.was at c.variant.ensures.does) refl;
      same = c.variant.ensures.slice ∙ c.loop-k.invariant.same;
    }

pub parser::one_run-returns : goal.parser::one_run-returns
parser::one_run-returns t c =
    record {
      does = one_run_whole _ _ _ _ _ _ _ _ _ _ _ _ _ _ _ (rw c.shared.ensures at c.nonterminal_of-nonterminal.ensures)
          c.clear_run.ensures.0
          c.nonterminal-called.ensures refl (variants_end _ _ _ _ _ _ _ _ _ _ _ _ (table_in c.loop-k.rows) (done_with
          c.loop-k.failure
          c.loop-k.state) c.loop-k.invariant.left c.loop-k-test.false refl);
      slice = c.loop-k.invariant.same ∙ c.clear_run.ensures.1;
    }

pub parser::steps-returns-in-Err : goal.parser::steps-returns-in-Err
parser::steps-returns-in-Err t c =
    record {
      continues = rw (c.in-Err.is, c.outcome.ensures c.args.state.now)
          (resume_ended _ _ _ _ _ _ _ _ _ _ _ _ _ (ended_stops _ _));
      slice = refl;
    }

pub parser::steps-returns-in_err-finish-in-Steps : goal.parser::steps-returns-in_err-finish-in-Steps
parser::steps-returns-in_err-finish-in-Steps t c =
    record {
      continues = let p = err_from_is_err_and c.from_residual.result c.from_residual.ensures.1 in
          rw (p.1, p.2)
          (rw c.in-Ok.is (path_end _ _ _ _ _ _ c.loop-stage.step c.loop-stage.remaining _ _ _ (without_failure 0
          c.loop-stage.state) _ _ _ _
          (table_in c.loop-stage.rows) c.loop-stage.invariant.left (goes_done _) c.in-Steps.is _ _ _
          c.if-remaining-eq0.true (rw c.in_err-finish-in-Steps.was at c.finish.ensures.does)));
      slice = c.finish.ensures.slice ∙ c.loop-stage.invariant.same;
    }

pub parser::steps-returns-then-remaining-eq0 : goal.parser::steps-returns-then-remaining-eq0
parser::steps-returns-then-remaining-eq0 t c =
    record {
      continues = rw c.in-Ok.is (path_end _ _ _ _ _ _ c.loop-stage.step c.loop-stage.remaining _ _ _ (without_failure 0
          c.loop-stage.state) _ _ _ _
          (table_in c.loop-stage.rows) c.loop-stage.invariant.left (goes_done _) c.in-Steps.is _ _ _
          c.if-remaining-eq0.true (rw c.in_ok-finish-in-Steps.was at c.finish.ensures.does));
      slice = c.finish.ensures.slice ∙ c.loop-stage.invariant.same;
    }

pub parser::steps-returns-in-Err-take_step : goal.parser::steps-returns-in-Err-take_step
parser::steps-returns-in-Err-take_step t c =
    record {
      continues = rw (c.in-Ok.is, c.outcome-in-Err-take_step.ensures c.take_step.new.state)
          (path_ended _ _ _ _ _ _ _ _ _ _ _ _ _ _ _ _ _ (path_step _ _ _ _ _ _ c.loop-stage.step
          c.loop-stage.remaining _ _
          _ (without_failure 0 c.loop-stage.state) _ _ _ _
          (table_in c.loop-stage.rows) c.loop-stage.invariant.left (goes_done _) c.in-Steps.is _ _
          c.if-remaining-eq0.false c.loop-stage.invariant.in_range.2 (rw c.in-Err-take_step.is at (rw c.shared.ensures
          at c.take_step.ensures)))
          (ended_stops _ _));
      slice = c.loop-stage.invariant.same;
    }

pub parser::steps-loop-stage-preserved : goal.parser::steps-loop-stage-preserved
parser::steps-loop-stage-preserved t c =
    record {
      in_range = (
        c.loop-stage.invariant.in_range.0,
        omega (arith, c.loop-stage.invariant.in_range.1),
        omega (arith, c.loop-stage.invariant.in_range.2, c.if-remaining-eq0.false),
      );
      nearer = omega (
        arith,
        c.loop-stage.invariant.nearer,
        c.if-remaining-eq0.false,
        rank_few
            c.in-Ok-take_step.stage.doing,
      );
      left =
          path_step _ _ _ _ _ _ c.loop-stage.step c.loop-stage.remaining _ _ _ (without_failure 0 c.loop-stage.state)
          _ _ _ _
          (table_in c.loop-stage.rows) c.loop-stage.invariant.left (goes_done _) c.in-Steps.is _ _
          c.if-remaining-eq0.false c.loop-stage.invariant.in_range.2 (rw c.in-Ok-take_step.is at (rw c.shared.ensures
          at c.take_step.ensures));
      same = c.loop-stage.invariant.same;
    }

pub parser::steps-returns-in-Child : goal.parser::steps-returns-in-Child
parser::steps-returns-in-Child t c =
    record {
      continues = rw c.in-Ok.is (path_child _ _ _ _ _ _ c.loop-stage.step c.loop-stage.remaining _ _ _
          (without_failure 0
          c.loop-stage.state) _ _ _ _
          (table_in c.loop-stage.rows) c.loop-stage.invariant.left (goes_done _) _ _ _ _ c.in-Child.is
          c.descend.ensures.does);
      slice = c.descend.ensures.slice ∙ c.loop-stage.invariant.same;
    }

pub parser::steps-returns-in-Optional : goal.parser::steps-returns-in-Optional
parser::steps-returns-in-Optional t c =
    record {
      continues = rw c.in-Ok.is (path_optional _ _ _ _ _ _ c.loop-stage.step c.loop-stage.remaining _ _ _
          (without_failure 0
          c.loop-stage.state) _ _ _ _
          (table_in c.loop-stage.rows) c.loop-stage.invariant.left (goes_done _) _ _ _ _ c.in-Optional.is
          c.choice.ensures.does);
      slice = c.choice.ensures.slice ∙ c.loop-stage.invariant.same;
    }

pub parser::steps-returns-then-list : goal.parser::steps-returns-then-list
parser::steps-returns-then-list t c =
    record {
      continues = rw c.in-Ok.is (path_names _ _ _ _ _ _ c.loop-stage.step c.loop-stage.remaining _ _ _
          (without_failure 0
          c.loop-stage.state) _ _ _ _
          (table_in c.loop-stage.rows) c.loop-stage.invariant.left (goes_done _) _ _ _ _ _ c.in-Elements.is
          c.if-list.true c.no_names.ensures c.choose.ensures.does);
      slice = c.choose.ensures.slice ∙ c.loop-stage.invariant.same;
    }

pub parser::steps-returns-in-Elements : goal.parser::steps-returns-in-Elements
parser::steps-returns-in-Elements t c =
    record {
      continues = rw c.in-Ok.is (path_elements _ _ _ _ _ _ c.loop-stage.step c.loop-stage.remaining _ _ _
          (without_failure 0
          c.loop-stage.state) _ _ _ _
          (table_in c.loop-stage.rows) c.loop-stage.invariant.left (goes_done _) _ _ _ _ c.in-Elements.is
          c.if-list.false
          c.choice-in-Elements.ensures.does);
      slice = c.choice-in-Elements.ensures.slice ∙ c.loop-stage.invariant.same;
    }

pub parser::variant-returns-then-variant-minimum : goal.parser::variant-returns-then-variant-minimum
parser::variant-returns-then-variant-minimum t c =
    record {
      does = variant_skipped _ _ _ _ _ _ _ c.variant-variant.ensures _ _ c.if-variant-minimum.true refl;
      slice = refl;
    }

pub parser::variant-returns-in_err-items : goal.parser::variant-returns-in_err-items
parser::variant-returns-in_err-items t c =
    record {
      does = let p = err_from_is_err_and c.from_residual.result c.from_residual.ensures.1 in
          rw (p.1, p.2)
          (variant_ran _ _ _ _ _ _ _ c.variant-variant.ensures _ _ c.if-variant-minimum.false _ _ _ _ _ _ _
          (rw c.in_err-items.was at c.begin_variant.ensures.begins)
          (resume_ended _ _ _ _ _ _ _ _ _ _ _ _ _ (limit_stops_path _ _))
          (variant_limit _ _ _ (done_with c.args.before c.args.state.now) (without_failure (limit_number
          c.in_err-items.field-0.0) c.begin_variant.new.state) _
          (number_there _) refl));
      slice = c.begin_variant.ensures.slice;
    }

pub parser::variant-returns : goal.parser::variant-returns
parser::variant-returns t c =
    record {
      does = variant_ran _ _ _ _ _ _ _ c.variant-variant.ensures _ _ c.if-variant-minimum.false _ _ _ _ _ _ _
          (rw c.in_ok-items.was at c.begin_variant.ensures.begins)
          (rw (rw c.shared.ensures at c.start_of-start.ensures) at c.steps-outcome.ensures.continues)
          (rw (rw c.shared.ensures at c.start_of-start.ensures) at (c.after_variant.ensures.does c.args.state.now
          c.steps-outcome.new.state));
      slice = c.steps-outcome.ensures.slice ∙ c.begin_variant.ensures.slice;
    }
