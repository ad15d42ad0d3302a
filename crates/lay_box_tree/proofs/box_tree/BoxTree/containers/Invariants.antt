use Rattle.lay_box_tree.proofs.NearestContainers.{ContainersTo}
use Rattle.lay_box_tree.proofs.box_tree.BoxTree.containers.Given as goal

abbrev pub invariant-loop-place : goal.invariant-loop-place
invariant-loop-place l = ContainersTo l.boxes l.containers.items l.place
