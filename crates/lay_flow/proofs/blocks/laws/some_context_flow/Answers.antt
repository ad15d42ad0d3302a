use Rattle.lay_flow.proofs.BlocksLemmas.SomeContextFlow.{some_context_flow_lem}
use Rattle.lay_flow.proofs.blocks.laws.some_context_flow.Goals as goal

pub returns : goal.returns
returns c = some_context_flow_lem c.some_flow_by_clearances.ensures
