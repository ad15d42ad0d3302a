use Rattle.lay_widths.proofs.Unique.{one_replaced_size_lem}
use Rattle.lay_widths.proofs.laws.one_replaced_size.Goals as goal

pub returns : goal.returns
returns c = one_replaced_size_lem
