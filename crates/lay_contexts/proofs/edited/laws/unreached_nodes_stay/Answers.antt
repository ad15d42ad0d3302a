use Rattle.lay_contexts.proofs.EditedLemmas.EditedContexts.{unreached_nodes_stay}
use Rattle.lay_contexts.proofs.edited.laws.unreached_nodes_stay.Goals as goal

pub returns : goal.returns
returns c = unreached_nodes_stay
