-- `run::run` meets its contract.
use Rattle.std.proofs.Common.{arith}
use Rattle.calls.specs.TableLaws.{table_length}
use Rattle.transitions.specs.TakenLaws.{skip_fits}
use Rattle.transitions.specs.Results.{outcome_of}
use Rattle.run.specs.ReadingLaws.{run_is}
use Rattle.run.proofs.reader.run.Goals as goal

pub overflow_cast-first : goal.overflow_cast-first
overflow_cast-first c =
    omega (arith, c.skip-first.ensures, skip_fits c.args.text.now 0 c.requires.1.short (omega arith))

pub returns : goal.returns
returns c =
    record {
      runs =
          run_is c.args.book.now c.args.text.now _ _ _ _ _ c.args.units c.args.start c.skip-first.result (outcome_of
          c.enter-found.result c.enter-found.new.state) (table_length _)
          c.clear.ensures c.requires.0 c.skip-first.ensures c.enter-found.ensures.does;
      slice = c.enter-found.ensures.slice;
    }
