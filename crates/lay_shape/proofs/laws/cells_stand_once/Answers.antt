use Rattle.lay_shape.proofs.CellLaws.{cells_stand_once_lem}
use Rattle.lay_shape.proofs.laws.cells_stand_once.Goals as goal

pub returns : goal.returns
returns c = cells_stand_once_lem
