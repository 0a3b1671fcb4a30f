-- `transitions::stored` meets its contract.
use Rattle.std.proofs.Common.{refl}
use Rattle.calls.specs.Lent.{table_in}
use Rattle.transitions.specs.EnteringLaws.{stored_none, stored_some}
use Rattle.transitions.proofs.entering.stored.Goals as goal

pub returns-then-parse_count-eq0 : goal.returns-then-parse_count-eq0
returns-then-parse_count-eq0 c =
    record {
      stores = λ s.
          stored_none (table_in c.args.rows.now) _ c.args.governor c.args.row c.args.nonterminal c.args.at s _
          c.take_stored.ensures.0 (rw c.shared.ensures at c.parse_count.ensures.count)
          c.no_parse.result _ c.if-parse_count-eq0.true c.no_parse.ensures refl;
      slice = c.take_stored.ensures.1;
    }

pub returns-else-parse_count-eq0 : goal.returns-else-parse_count-eq0
returns-else-parse_count-eq0 c =
    record {
      stores = λ s.
          stored_some (table_in c.args.rows.now) _ c.args.governor c.args.row c.args.nonterminal c.args.at s _
          c.take_stored.ensures.0 (rw c.shared.ensures at c.parse_count.ensures.count) _ c.if-parse_count-eq0.false
          refl;
      slice = c.take_stored.ensures.1;
    }
