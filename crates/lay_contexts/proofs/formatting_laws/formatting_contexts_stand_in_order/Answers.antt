use Rattle.lay_contexts.proofs.ContextFacts.{in_order}
use Rattle.lay_contexts.proofs.formatting_laws.formatting_contexts_stand_in_order.Goals as goal

pub returns : goal.returns
returns c = in_order
