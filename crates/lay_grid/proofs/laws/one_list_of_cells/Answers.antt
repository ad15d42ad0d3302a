use Rattle.lay_grid.proofs.OneGrid.{one_list_of_cells_lem}
use Rattle.lay_grid.proofs.laws.one_list_of_cells.Goals as goal

pub returns : goal.returns
returns c = one_list_of_cells_lem
