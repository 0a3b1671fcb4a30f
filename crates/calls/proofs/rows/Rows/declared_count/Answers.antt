-- `Rows::declared_count` meets its contract. The invariant (`Counting` of NamesLaws): the names of the binders that are
-- left are still to be counted. A binder is a number of 32 bits, so that those of all rows together don't overflow.
use Rattle.std.proofs.Common.{arith}
use Rattle.calls.specs.NamesLaws.{counting_on, counting_end, counting_none, counting_some, open_past}
use Rattle.calls.proofs.rows.Rows.declared_count.Goals as goal

pub returns-then-binder-eq-OUTSIDE : goal.returns-then-binder-eq-OUTSIDE
returns-then-binder-eq-OUTSIDE c = λ text. counting_none text c.args.self.now _ _ c.if-binder-eq-OUTSIDE.true

pub loop-above-preserved : goal.loop-above-preserved
loop-above-preserved c =
    let levels = c.open_binder-around.ensures.levels in
    record {
      few = omega (arith, c.loop-above.invariant.few);
      past = λ h. open_past c.args.self.now _ _ levels h c.open_binder-around.ensures.binder;
      left = λ text.
          counting_on text c.args.self.now _ _ _ _ _ _ _ levels (c.loop-above.invariant.left text) (omega arith)
          c.name_count.ensures c.open_binder-around.ensures.binder;
    }

pub returns : goal.returns
returns c = λ text.
    counting_some text c.args.self.now _ _ _ c.if-binder-eq-OUTSIDE.false
    (counting_end text c.args.self.now _ _ _ _ _ (c.loop-above.invariant.left text) (omega arith)
    (c.loop-above.invariant.past (omega arith)))
