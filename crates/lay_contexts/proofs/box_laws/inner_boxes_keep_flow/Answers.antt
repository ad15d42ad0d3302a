use Rattle.lay_contexts.proofs.InnerFlows.{inner_flows}
use Rattle.lay_contexts.proofs.box_laws.inner_boxes_keep_flow.Goals as goal

pub returns : goal.returns
returns c = inner_flows
