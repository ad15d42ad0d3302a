use Rattle.lay_history.proofs.EditsLemmas.Firsts.{first_within}
use Rattle.lay_history.proofs.edits.laws.first_is_within.Goals as goal

pub returns : goal.returns
returns c = first_within
