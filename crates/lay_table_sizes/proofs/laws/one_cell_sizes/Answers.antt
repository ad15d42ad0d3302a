use Rattle.lay_table_sizes.proofs.OneCellSizes.{one_cell_sizes_lem}
use Rattle.lay_table_sizes.proofs.laws.one_cell_sizes.Goals as goal

pub returns : goal.returns
returns c = one_cell_sizes_lem
