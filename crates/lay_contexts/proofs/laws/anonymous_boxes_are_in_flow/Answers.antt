use Rattle.lay_contexts.proofs.FlowAround.{anonymous_in_flow}
use Rattle.lay_contexts.proofs.laws.anonymous_boxes_are_in_flow.Goals as goal

pub returns : goal.returns
returns c = anonymous_in_flow
