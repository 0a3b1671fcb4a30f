-- `RowsMut::add_run` meets its contract.
use Rattle.std.proofs.Common.{refl}
use Rattle.calls.specs.TableLaws.{run_added}
use Rattle.calls.proofs.rows_mut.RowsMut.add_run.Goals as goal

pub returns : goal.returns
returns c =
    (run_added _ _ _ c.requires _ _ c.add.ensures, refl)
