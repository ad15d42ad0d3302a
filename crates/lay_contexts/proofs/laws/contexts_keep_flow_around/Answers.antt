use Rattle.lay_contexts.proofs.FlowAround.{contexts_keep_flow}
use Rattle.lay_contexts.proofs.laws.contexts_keep_flow_around.Goals as goal

pub returns : goal.returns
returns c = contexts_keep_flow
