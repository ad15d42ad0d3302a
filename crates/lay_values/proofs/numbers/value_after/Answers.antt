use Rattle.std.proofs.Common.{arith, ◌^◌}
use Rattle.lay_values.proofs.Digits.{tenfold-within}
use Rattle.lay_values.proofs.numbers.value_after.Goals as goal

pub with_digit-value-requires-clause-small : goal.with_digit-value-requires-clause-small
with_digit-value-requires-clause-small c =
    let all = rw (← c.loop-digit.invariant.goes_on) at c.requires.small in
    omega (arith, tenfold-within c.loop-digit.value c.loop-digit.digit-index (10 ^ 27) c.args.digits.now (omega arith) all)
