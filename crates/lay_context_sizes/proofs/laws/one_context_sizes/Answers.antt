use Rattle.lay_context_sizes.proofs.OneSizes.{one_context_sizes_lem}
use Rattle.lay_context_sizes.proofs.laws.one_context_sizes.Goals as goal

pub returns : goal.returns
returns c = one_context_sizes_lem c.one_table_sizes.ensures c.one_cell_sizes.ensures
