use Rattle.lay_grid.proofs.CellsStand.{rows_have_a_grid_lem}
use Rattle.lay_grid.proofs.laws.rows_have_a_grid.Goals as goal

pub returns : goal.returns
returns c = rows_have_a_grid_lem
