use Rattle.lay_values.proofs.OneName.{own_word, word_spelled}
use Rattle.lay_values.proofs.laws.one_word.Goals as goal

pub returns : goal.returns
returns c = (own_word, word_spelled)
