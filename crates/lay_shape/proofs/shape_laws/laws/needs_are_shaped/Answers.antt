use Rattle.lay_shape.proofs.ShapeLawsLemmas.ShapedNeeds.{needs_are_shaped_lem}
use Rattle.lay_shape.proofs.shape_laws.laws.needs_are_shaped.Goals as goal

pub returns : goal.returns
returns c = needs_are_shaped_lem
