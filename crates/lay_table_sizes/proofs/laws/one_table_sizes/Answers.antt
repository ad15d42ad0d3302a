use Rattle.lay_table_sizes.proofs.OneTableSizes.{one_table_sizes_lem}
use Rattle.lay_table_sizes.proofs.laws.one_table_sizes.Goals as goal

pub returns : goal.returns
returns c = one_table_sizes_lem c.one_table_grid.ensures
