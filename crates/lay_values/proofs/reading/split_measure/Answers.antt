use Rattle.lay_values.proofs.Digits.{leading_digits-are}
use Rattle.lay_values.proofs.reading.split_measure.Goals as goal

pub whole_number-requires : goal.whole_number-requires
whole_number-requires c = rw c.split_digits.ensures.digits (leading_digits-are c.args.text.now)
