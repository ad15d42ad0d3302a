use Rattle.lay_context.proofs.TaskInputs.{inputs_come_of_needs_lem}
use Rattle.lay_context.proofs.laws.inputs_come_of_needs.Goals as goal

pub returns : goal.returns
returns c = inputs_come_of_needs_lem
