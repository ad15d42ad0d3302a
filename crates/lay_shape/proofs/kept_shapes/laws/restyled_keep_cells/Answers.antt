use Rattle.lay_shape.proofs.KeptShapesLemmas.KeptBoxes.{restyled-keep-cells}
use Rattle.lay_shape.proofs.kept_shapes.laws.restyled_keep_cells.Goals as goal

pub returns : goal.returns
returns c = restyled-keep-cells
