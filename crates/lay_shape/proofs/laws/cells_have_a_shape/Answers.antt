use Rattle.lay_shape.proofs.CellLaws.{cells_have_a_shape_lem}
use Rattle.lay_shape.proofs.laws.cells_have_a_shape.Goals as goal

pub returns : goal.returns
returns c = cells_have_a_shape_lem
