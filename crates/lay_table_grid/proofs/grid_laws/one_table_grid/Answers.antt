use Rattle.lay_table_grid.proofs.OneTableGrid.{one_table_grid_lem}
use Rattle.lay_table_grid.proofs.grid_laws.one_table_grid.Goals as goal

pub returns : goal.returns
returns c = one_table_grid_lem
