use Rattle.lay_context.proofs.TaskOrder.{needs_come_first_lem}
use Rattle.lay_context.proofs.laws.needs_come_first.Goals as goal

pub returns : goal.returns
returns c = needs_come_first_lem
