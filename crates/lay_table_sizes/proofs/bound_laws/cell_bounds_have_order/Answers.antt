use Rattle.lay_table_sizes.proofs.AutoWidths.{cell_bounds_have_order_lem}
use Rattle.lay_table_sizes.proofs.bound_laws.cell_bounds_have_order.Goals as goal

pub returns : goal.returns
returns c = cell_bounds_have_order_lem
