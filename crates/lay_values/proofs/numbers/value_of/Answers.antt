use Rattle.std.proofs.Common.{arith, ◌+◌, length}
use Rattle.lay_values.proofs.Digits.{few_together, value_after-append}
use Rattle.lay_values.proofs.numbers.value_of.Goals as goal

pub value_after-requires-clause-small : goal.value_after-requires-clause-small
value_after-requires-clause-small c =
    rw c.whole_value.ensures (few_together c.args.whole.now c.args.fraction.now 27 c.requires.whole c.requires.fraction (omega arith))

pub returns-clause-value : goal.returns-clause-value
returns-clause-value c = rw (value_after-append 0 c.args.whole.now c.args.fraction.now) cc

pub returns-clause-small : goal.returns-clause-small
returns-clause-small c =
    rw (c.value_after.ensures, c.whole_value.ensures) (few_together c.args.whole.now c.args.fraction.now (9 + length c.args.fraction.now) c.requires.whole c.requires.fraction (omega arith))
