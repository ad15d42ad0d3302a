use Rattle.lay_widths.proofs.Unique.{one_block_width_lem}
use Rattle.lay_widths.proofs.laws.one_block_width.Goals as goal

pub returns : goal.returns
returns c = one_block_width_lem
