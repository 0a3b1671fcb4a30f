-- `characters::number_of` meets its contract, by the law of the table. That the table lists the rule is computed here:
-- antt packs the rule at the 256 bytes, and compares that with the table in the source.
use Rattle.std.proofs.Common.{◌≡◌, ap, arith, get_or, refl, ◌%◌, ◌∙◌}
use Rattle.characters.specs.ClassLaws.{tabulate, packed, class_table, half_for, table_at}
use Rattle.characters.specs.Classes.{class_of}
use Rattle.characters.specs.declared.table.TheConstants.{CLASSES}
use Rattle.characters.proofs.classes.number_of.Goals as goal

listed : CLASSES ≡ class_table
unfolding class_table tabulate packed class_of
listed = refl

pub returns : goal.returns
returns c = let b = c.args.byte in
    ap (λ rows. half_for (get_or rows (b % 16) 0) b) listed ∙ table_at b (omega (arith, c.ranges.byte))
