use Rattle.lay_shape.proofs.KeptShapesLemmas.SameShape.{shapes_stay}
use Rattle.lay_shape.proofs.kept_shapes.laws.shapes_stay.Goals as goal

pub returns : goal.returns
returns c = shapes_stay
