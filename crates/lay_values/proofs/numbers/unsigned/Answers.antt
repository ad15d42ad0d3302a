use Rattle.lay_values.proofs.Digits.{leading_digits-are}
use Rattle.lay_values.proofs.numbers.unsigned.Goals as goal

pub whole_number-requires : goal.whole_number-requires
whole_number-requires c = rw c.split_digits.ensures.digits (leading_digits-are c.args.text.now)

pub with_fraction-requires : goal.with_fraction-requires
with_fraction-requires c = rw c.split_digits.ensures.digits (leading_digits-are c.args.text.now)
