use Rattle.lay_contexts.proofs.OwnFlows.{own_flows}
use Rattle.lay_contexts.proofs.box_laws.own_boxes_keep_flow.Goals as goal

pub returns : goal.returns
returns c = own_flows
