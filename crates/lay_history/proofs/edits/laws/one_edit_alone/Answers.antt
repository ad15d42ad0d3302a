use Rattle.lay_history.proofs.EditsLemmas.Lists.{one_edit_alone}
use Rattle.lay_history.proofs.edits.laws.one_edit_alone.Goals as goal

pub returns : goal.returns
returns c = one_edit_alone
