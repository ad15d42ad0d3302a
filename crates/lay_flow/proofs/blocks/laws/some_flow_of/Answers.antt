use Rattle.lay_flow.proofs.BlocksLemmas.SomeContextFlow.{some_flow_of_lem}
use Rattle.lay_flow.proofs.blocks.laws.some_flow_of.Goals as goal

pub returns : goal.returns
returns c = some_flow_of_lem c.some_context_flow.ensures
