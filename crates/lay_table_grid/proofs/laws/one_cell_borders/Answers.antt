use Rattle.lay_table_grid.proofs.OneBorders.{one_cell_borders_lem}
use Rattle.lay_table_grid.proofs.laws.one_cell_borders.Goals as goal

pub returns : goal.returns
returns c = one_cell_borders_lem
