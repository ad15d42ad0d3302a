use Rattle.lay_words.proofs.Ranges.{in_range}
use Rattle.lay_words.proofs.laws.numbers_are_in_range.Goals as goal

pub returns : goal.returns
returns c = in_range
