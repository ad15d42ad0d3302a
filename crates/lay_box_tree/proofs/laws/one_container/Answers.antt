use Rattle.lay_box_tree.proofs.NearestContainers.{one_container}
use Rattle.lay_box_tree.proofs.laws.one_container.Goals as goal

pub returns : goal.returns
returns c = one_container
