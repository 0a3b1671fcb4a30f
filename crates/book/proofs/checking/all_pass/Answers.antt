-- `book::all_pass` meets its contract. The invariant: the variants from j on decide.
use Rattle.std.proofs.Common.{refl, sym, ◌∙◌}
use Rattle.book.proofs.EndLaws.{pass_on, pass_stop, pass_end}
use Rattle.book.proofs.checking.all_pass.Goals as goal

pub loop-j-init : goal.loop-j-init
loop-j-init c next = refl

pub returns-then-not-passes : goal.returns-then-not-passes
returns-then-not-passes c next = sym (c.loop-j.invariant next)
    ∙ pass_stop c.args.bytes.now c.args.index.now _ _ _ c.count-j-end.ensures c.loop-j-test.true _ c.place.ensures
    (rw c.new-book.ensures at (sym c.passes.ensures ∙ c.if-not-passes.true))

pub loop-j-preserved : goal.loop-j-preserved
loop-j-preserved c next = sym (pass_on c.args.bytes.now c.args.index.now _ _ _ c.count-j-end.ensures c.loop-j-test.true
    (rw c.new-book.ensures at (sym c.passes.ensures ∙ c.if-not-passes.false))) ∙ c.loop-j.invariant next

pub returns : goal.returns
returns c next = sym (c.loop-j.invariant next) ∙ pass_end _ _ _ _ _ c.count-j-end.ensures c.loop-j-test.false
