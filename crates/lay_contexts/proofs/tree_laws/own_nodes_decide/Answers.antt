use Rattle.lay_contexts.proofs.OwnBoxes.{own_nodes_decide}
use Rattle.lay_contexts.proofs.tree_laws.own_nodes_decide.Goals as goal

pub returns : goal.returns
returns c = own_nodes_decide
