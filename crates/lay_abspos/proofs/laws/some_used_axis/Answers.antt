use Rattle.lay_abspos.proofs.SomeAxis.{some_used_axis_lem}
use Rattle.lay_abspos.proofs.laws.some_used_axis.Goals as goal

pub returns : goal.returns
returns c = some_used_axis_lem
