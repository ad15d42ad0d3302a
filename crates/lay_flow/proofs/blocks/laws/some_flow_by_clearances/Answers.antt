use Rattle.lay_flow.proofs.BlocksLemmas.FlowByClearances.{some_flow_by_clearances_lem}
use Rattle.lay_flow.proofs.blocks.laws.some_flow_by_clearances.Goals as goal

pub returns : goal.returns
returns c = some_flow_by_clearances_lem c.some_lines.ensures
