use Rattle.lay_context_sizes.proofs.ShrunkWidths.{widths_count_where_shrunk_lem}
use Rattle.lay_context_sizes.proofs.laws.widths_count_where_shrunk.Goals as goal

pub returns : goal.returns
returns c = widths_count_where_shrunk_lem
