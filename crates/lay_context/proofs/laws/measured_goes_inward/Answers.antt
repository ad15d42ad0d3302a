use Rattle.lay_context.proofs.MeasuredInward.{measured_goes_inward_lem}
use Rattle.lay_context.proofs.laws.measured_goes_inward.Goals as goal

pub returns : goal.returns
returns c = measured_goes_inward_lem
