use Rattle.lay_shape.proofs.OwnNodes.{contexts_are_of_own_nodes_lem}
use Rattle.lay_shape.proofs.laws.contexts_are_of_own_nodes.Goals as goal

pub returns : goal.returns
returns c = contexts_are_of_own_nodes_lem
