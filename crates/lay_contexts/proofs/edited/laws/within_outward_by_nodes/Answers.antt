use Rattle.lay_contexts.proofs.EditedLemmas.RootChains.{within_outward_by_nodes}
use Rattle.lay_contexts.proofs.edited.laws.within_outward_by_nodes.Goals as goal

pub returns : goal.returns
returns c = within_outward_by_nodes
