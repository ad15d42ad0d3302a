use Rattle.lay_history.proofs.EditsLemmas.Firsts.{one_first}
use Rattle.lay_history.proofs.edits.laws.one_first.Goals as goal

pub returns : goal.returns
returns c = one_first
