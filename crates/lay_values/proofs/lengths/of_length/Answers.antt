use Rattle.std.proofs.Common.{refl, rules}
use Rattle.lay_values.specs.Lengths.{all_suffixes}
use Rattle.lay_values.proofs.lengths.of_length.Goals as goal

pub returns-in-0 : goal.returns-in-0
unfolding all_suffixes
returns-in-0 c = rw c.in-0.is refl

pub returns-in-1 : goal.returns-in-1
unfolding all_suffixes
returns-in-1 c = rw c.in-1.is refl

pub returns-in-2 : goal.returns-in-2
unfolding all_suffixes
returns-in-2 c = rw c.in-2.is refl

pub returns-in_default : goal.returns-in_default
unfolding all_suffixes
returns-in_default c = search rules
