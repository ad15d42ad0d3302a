use Rattle.lay_context_sizes.proofs.SomeSizes.{some_context_sizes_lem}
use Rattle.lay_context_sizes.proofs.laws.some_context_sizes.Goals as goal

pub returns : goal.returns
returns c = some_context_sizes_lem c.some_table_sizes.ensures c.some_cell_sizes.ensures
