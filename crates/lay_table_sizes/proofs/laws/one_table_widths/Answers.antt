use Rattle.lay_table_sizes.proofs.OneTableWidths.{one_table_widths_lem}
use Rattle.lay_table_sizes.proofs.laws.one_table_widths.Goals as goal

pub returns : goal.returns
returns c = one_table_widths_lem c.one_table_grid.ensures
