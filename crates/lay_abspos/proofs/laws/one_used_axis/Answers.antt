use Rattle.lay_abspos.proofs.Unique.{one_used_axis_lem}
use Rattle.lay_abspos.proofs.laws.one_used_axis.Goals as goal

pub returns : goal.returns
returns c = one_used_axis_lem
