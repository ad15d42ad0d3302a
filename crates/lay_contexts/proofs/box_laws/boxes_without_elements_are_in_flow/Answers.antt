use Rattle.lay_contexts.proofs.AnonymousFlows.{anonymous_flows}
use Rattle.lay_contexts.proofs.box_laws.boxes_without_elements_are_in_flow.Goals as goal

pub returns : goal.returns
returns c = anonymous_flows
