use Rattle.lay_contexts.proofs.ChildTrees.{children_stand_in_order}
use Rattle.lay_contexts.proofs.box_laws.children_stand_in_order.Goals as goal

pub returns : goal.returns
returns c = children_stand_in_order
