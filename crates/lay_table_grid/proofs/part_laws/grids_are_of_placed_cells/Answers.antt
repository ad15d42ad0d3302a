use Rattle.lay_table_grid.proofs.OneTableParts.{grids_are_of_placed_cells_lem}
use Rattle.lay_table_grid.proofs.part_laws.grids_are_of_placed_cells.Goals as goal

pub returns : goal.returns
returns c = grids_are_of_placed_cells_lem
