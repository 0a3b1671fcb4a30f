-- `run::whole_values` meets its contract. The invariant: the parses from i on decide.
use Rattle.std.proofs.Common.{drop, ◌≡◌}
use Rattle.semantics.specs.Answer.{whole_values}
use Rattle.run_model.specs.Rows.{row_of}
use Rattle.run.specs.Reading.{with_values}
use Rattle.run.specs.declared.whole.Values.{Values}
use Rattle.run.proofs.whole.whole_values.Given as goal

abbrev pub invariant-loop-i : goal.invariant-loop-i
invariant-loop-i l = with_values l.values (whole_values l.text (drop l.i (row_of l.rows 200).set))
    ≡ with_values Values.Nothing (whole_values l.text (row_of l.rows 200).set)
