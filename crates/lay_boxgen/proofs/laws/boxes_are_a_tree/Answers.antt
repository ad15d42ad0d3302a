use Rattle.lay_boxgen.proofs.ListedForests.{boxes_are_a_tree_lem}
use Rattle.lay_boxgen.proofs.laws.boxes_are_a_tree.Goals as goal

pub returns : goal.returns
returns c = boxes_are_a_tree_lem
