use Rattle.lay_context.proofs.SomeTrees.{some_tree_lem}
use Rattle.lay_context.proofs.laws.some_tree.Goals as goal

pub returns : goal.returns
returns c = some_tree_lem c.some_local.ensures c.grids_are_of_boxes.ensures
