use Rattle.lay_boxgen.proofs.ListedLeaves.{inner_boxes_are_leaves_lem}
use Rattle.lay_boxgen.proofs.laws.inner_boxes_are_leaves.Goals as goal

pub returns : goal.returns
returns c = inner_boxes_are_leaves_lem
