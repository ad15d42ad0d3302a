use Rattle.lay_contexts.proofs.OneList.{contexts_stand_in_order}
use Rattle.lay_contexts.proofs.tree_laws.contexts_stand_in_order.Goals as goal

pub returns : goal.returns
returns c = contexts_stand_in_order
