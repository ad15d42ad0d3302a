use Rattle.lay_valign.proofs.LowShapes.{shapes_are_low_lem}
use Rattle.lay_valign.proofs.laws.shapes_are_low.Goals as goal

pub returns : goal.returns
returns c = shapes_are_low_lem
