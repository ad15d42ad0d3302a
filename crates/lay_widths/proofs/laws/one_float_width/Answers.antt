use Rattle.lay_widths.proofs.Unique.{one_float_width_lem}
use Rattle.lay_widths.proofs.laws.one_float_width.Goals as goal

pub returns : goal.returns
returns c = one_float_width_lem
