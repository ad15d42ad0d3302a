use Rattle.lay_box_tree.proofs.NearestContainers.{containers_are_a_tree}
use Rattle.lay_box_tree.proofs.laws.containers_are_a_tree.Goals as goal

pub returns : goal.returns
returns c = containers_are_a_tree
