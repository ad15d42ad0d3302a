use Rattle.lay_context_sizes.proofs.SomeWidths.{some_context_widths_lem}
use Rattle.lay_context_sizes.proofs.laws.some_context_widths.Goals as goal

pub returns : goal.returns
returns c = some_context_widths_lem c.some_table_widths.ensures
