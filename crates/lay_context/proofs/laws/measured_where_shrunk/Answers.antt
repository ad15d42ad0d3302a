use Rattle.lay_context.proofs.MeasuredInward.{measured_where_shrunk_lem}
use Rattle.lay_context.proofs.laws.measured_where_shrunk.Goals as goal

pub returns : goal.returns
returns c = measured_where_shrunk_lem
