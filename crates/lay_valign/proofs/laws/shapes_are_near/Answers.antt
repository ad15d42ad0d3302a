use Rattle.lay_valign.proofs.NearShapes.{shapes_are_near_lem}
use Rattle.lay_valign.proofs.laws.shapes_are_near.Goals as goal

pub returns : goal.returns
returns c = shapes_are_near_lem
