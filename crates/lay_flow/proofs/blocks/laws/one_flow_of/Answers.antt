use Rattle.lay_flow.proofs.BlocksLemmas.OneContextFlow.{one_flow_of_lem}
use Rattle.lay_flow.proofs.blocks.laws.one_flow_of.Goals as goal

pub returns : goal.returns
returns c = one_flow_of_lem
