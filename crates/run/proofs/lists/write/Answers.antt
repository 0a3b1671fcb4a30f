-- `run::write` meets its contract.
use Rattle.std.proofs.Common.{List, ap, arith, get_or, set, take_all, ℕ, ◌∙◌}
use Rattle.semantics.specs.Answer as answers
use Rattle.run.proofs.ListTurns.{copy_again}
use Rattle.run.proofs.lists.write.Goals as goal

pub loop-i-init : goal.loop-i-init
loop-i-init c = λ lent e. e

pub loop-i-preserved : goal.loop-i-preserved
loop-i-preserved c =
    let loop = c.loop-i in
    let numbers = c.args.numbers.now in
    λ lent e. ap (λ (m : List ℕ). set m loop.i (get_or numbers loop.i 0)) (loop.invariant lent e)
    ∙ copy_again _ lent numbers loop.i (omega (arith, c.loop-i-test.true, c.requires))
    (omega (arith, c.loop-i-test.true))

pub returns : goal.returns
returns c =
    c.loop-i.invariant _ c.clear.ensures
    ∙ ap (λ (l : List ℕ). answers.written c.args.size l c.args.lent.now)
    (take_all c.loop-i.i c.args.numbers.now c.loop-i-test.false)
