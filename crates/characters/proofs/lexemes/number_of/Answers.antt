-- `characters::number_of` meets its contract. The invariant: the digits left, read after `value`, spell the whole
-- number.
use Rattle.std.proofs.Common.{arith, get_or, sym, ◌*◌, ◌+◌, ◌-◌, ◌<◌, ◌∙◌}
use Rattle.characters.proofs.LexemeLaws.{decimal_large, decimal_on, decimal_end, number_fits, number_large}
use Rattle.characters.specs.Lexemes.{largest}
use Rattle.characters.proofs.lexemes.number_of.Goals as goal

pub returns-then-digit-value : goal.returns-then-digit-value
returns-then-digit-value c = let loop = c.loop-byte in
    let digits = c.args.digits.now in
    let more : largest < loop.value * 10 + (get_or digits loop.byte-index 0 - 48) = omega arith in
    sym (number_large _ _ (rw loop.invariant.spelled at (decimal_large _ _ _ c.loop-byte-test.true more)))

pub loop-byte-preserved : goal.loop-byte-preserved
loop-byte-preserved c = record {
  fits = omega arith;
  spelled = rw c.digit_value-digit.ensures
      (sym (decimal_on _ _ _ c.loop-byte-test.true) ∙ c.loop-byte.invariant.spelled);
}

pub returns : goal.returns
returns c = let e = sym c.loop-byte.invariant.spelled ∙ decimal_end _ _ _ c.loop-byte-test.false in
    sym (rw e (number_fits _ _ c.loop-byte.invariant.fits))
