use Rattle.lay_placement.proofs.SomePlaces.{some_placement_lem}
use Rattle.lay_placement.proofs.laws.some_placement.Goals as goal

pub returns : goal.returns
returns c = some_placement_lem c.some_flow_of.ensures
