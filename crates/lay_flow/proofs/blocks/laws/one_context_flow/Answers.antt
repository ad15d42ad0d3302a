use Rattle.lay_flow.proofs.BlocksLemmas.OneContextFlow.{one_context_flow_lem}
use Rattle.lay_flow.proofs.blocks.laws.one_context_flow.Goals as goal

pub returns : goal.returns
returns c = one_context_flow_lem
