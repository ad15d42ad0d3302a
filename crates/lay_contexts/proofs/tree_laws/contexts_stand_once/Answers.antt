use Rattle.lay_contexts.proofs.OneStand.{contexts_stand_once}
use Rattle.lay_contexts.proofs.tree_laws.contexts_stand_once.Goals as goal

pub returns : goal.returns
returns c = contexts_stand_once
