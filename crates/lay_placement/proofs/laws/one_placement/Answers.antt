use Rattle.lay_placement.proofs.OnePlaces.{one_placement_lem}
use Rattle.lay_placement.proofs.laws.one_placement.Goals as goal

pub returns : goal.returns
returns c = one_placement_lem
