use Rattle.lay_table_sizes.proofs.Cited.{one_list_of_bounds_lem}
use Rattle.lay_table_sizes.specs.ColumnBounds.{bounds_in}
use Rattle.lay_table_sizes.proofs.bound_laws.one_list_of_table_bounds.Goals as goal

pub returns : goal.returns
returns c boxes inner g v w p q = one_list_of_bounds_lem (bounds_in boxes inner g) v w p q
