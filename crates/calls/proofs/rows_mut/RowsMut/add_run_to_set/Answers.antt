-- `RowsMut::add_run_to_set` meets its contract.
use Rattle.std.proofs.Common.{refl}
use Rattle.calls.specs.TableLaws.{run_joined}
use Rattle.calls.proofs.rows_mut.RowsMut.add_run_to_set.Goals as goal

pub returns : goal.returns
returns c =
    (run_joined _ _ _ c.requires _ c.add_all.ensures, refl)
