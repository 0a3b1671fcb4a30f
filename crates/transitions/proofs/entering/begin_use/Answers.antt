-- `transitions::begin_use` meets its contract.
use Rattle.std.proofs.Common.{refl, ap, sym, ◌∙◌}
use Rattle.std.proofs.lemmas.Result.{err_from_is_err_and}
use Rattle.calls.specs.CallLaws.{governor_above}
use Rattle.calls.specs.Table.{governor_in}
use Rattle.calls.specs.Lent.{table_in}
use Rattle.transitions.specs.OutcomeLaws.{number_there}
use Rattle.transitions.specs.EnteringLaws.{enters_spent, enters_stored, enters_open}
use Rattle.transitions.proofs.entering.begin_use.Goals as goal

pub returns-in_err-spend : goal.returns-in_err-spend
returns-in_err-spend c =
    record {
      begins = let p = err_from_is_err_and c.from_residual.result c.from_residual.ensures.1 in
          rw (p.1, p.2)
          (enters_spent c.args.book.now c.args.text.now (table_in c.args.rows.now) c.args.row c.args.binder
          c.args.nonterminal c.args.at
          c.args.state.now _ _ (rw c.in_err-spend.was at c.spend.ensures) c.args.store.now (number_there _) refl);
      slice = refl;
    }

pub stored-failure-requires : goal.stored-failure-requires
stored-failure-requires c =
    governor_above (table_in c.args.rows.now) c.args.row c.args.binder c.args.nonterminal c.args.at _ c.requires.0
    (sym (ap governor_in c.in-SameStart.is) ∙ (rw c.shared.ensures at c.governor_of-governor.ensures))

pub returns-in-SameStart : goal.returns-in-SameStart
returns-in-SameStart c =
    record {
      begins = enters_stored c.args.book.now c.args.text.now (table_in c.args.rows.now) c.args.row c.args.binder
          c.args.nonterminal c.args.at
          c.args.state.now _ _ (rw c.in_ok-spend.was at c.spend.ensures) c.args.store.now _ _ _ _
          refl (rw c.shared.ensures at c.governor_of-governor.ensures) c.in-SameStart.is
          (c.stored-failure.ensures.stores _) refl;
      slice = c.stored-failure.ensures.slice;
    }

pub returns-in-Minimum : goal.returns-in-Minimum
returns-in-Minimum c =
    record {
      begins = enters_open c.args.book.now c.args.text.now (table_in c.args.rows.now) c.args.row c.args.binder
          c.args.nonterminal c.args.at
          c.args.state.now _ _ (rw c.in_ok-spend.was at c.spend.ensures) c.args.store.now _ _ _ _
          refl (rw c.shared.ensures at c.governor_of-governor.ensures) c.in-Minimum.is c.«open».ensures.opens;
      slice = c.«open».ensures.slice;
    }
