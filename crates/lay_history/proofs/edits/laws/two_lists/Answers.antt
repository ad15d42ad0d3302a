use Rattle.lay_history.proofs.EditsLemmas.Lists.{two_lists}
use Rattle.lay_history.proofs.edits.laws.two_lists.Goals as goal

pub returns : goal.returns
returns c = two_lists
