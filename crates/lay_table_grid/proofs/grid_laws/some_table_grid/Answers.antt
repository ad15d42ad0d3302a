use Rattle.lay_table_grid.proofs.SomeTableGrid.{some_table_grid_lem}
use Rattle.lay_table_grid.proofs.grid_laws.some_table_grid.Goals as goal

pub returns : goal.returns
returns c = some_table_grid_lem
