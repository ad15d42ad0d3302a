use Rattle.lay_table_sizes.proofs.AutoWidths.{one_auto_width_lem}
use Rattle.lay_table_sizes.proofs.bound_laws.one_auto_width.Goals as goal

pub returns : goal.returns
returns c = one_auto_width_lem
