-- `run::clear` meets its contract.
use Rattle.std.proofs.Common.{List, ◌++◌, ap, drop, replicate, sym, ℕ, ◌∙◌}
use Rattle.std.proofs.Common.{length-take-le}
use Rattle.run.specs.ListLaws.{written_zeros}
use Rattle.run.proofs.lists.clear.Goals as goal

pub returns : goal.returns
returns c =
    let lent = c.args.lent.now in
    let size = c.args.size in
    ap (λ (zeros : List ℕ). zeros ++ drop size lent)
    (c.fill.ensures.after (λ y e. e) ∙ ap (λ (n : ℕ). replicate n 0) (length-take-le size lent c.requires))
    ∙ sym (written_zeros size lent)
