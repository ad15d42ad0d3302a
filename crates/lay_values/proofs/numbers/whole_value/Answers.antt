use Rattle.std.proofs.Common.{arith, ◌^◌}
use Rattle.lay_values.proofs.Digits.{few_digits, tenfold-within}
use Rattle.lay_values.proofs.numbers.whole_value.Goals as goal

pub with_next-value-requires-clause-small : goal.with_next-value-requires-clause-small
with_next-value-requires-clause-small c =
    let all = rw (← c.loop-digit.invariant.goes_on) at (few_digits c.args.digits.now 9 c.requires.digits c.requires.few) in
    omega (arith, tenfold-within c.loop-digit.value c.loop-digit.digit-index (10 ^ 9) c.args.digits.now (omega arith) all)
