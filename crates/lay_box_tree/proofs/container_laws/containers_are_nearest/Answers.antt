use Rattle.lay_box_tree.proofs.ContainerSteps.{containers_are_nearest_lem}
use Rattle.lay_box_tree.proofs.container_laws.containers_are_nearest.Goals as goal

pub returns : goal.returns
returns c = containers_are_nearest_lem
