use Rattle.lay_context_sizes.proofs.OneWidths.{one_context_widths_lem}
use Rattle.lay_context_sizes.proofs.laws.one_context_widths.Goals as goal

pub returns : goal.returns
returns c = one_context_widths_lem c.one_table_widths.ensures
