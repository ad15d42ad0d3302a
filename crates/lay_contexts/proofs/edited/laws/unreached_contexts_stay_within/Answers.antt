use Rattle.lay_contexts.proofs.EditedLemmas.EditedContexts.{unreached_contexts_stay_within}
use Rattle.lay_contexts.proofs.edited.laws.unreached_contexts_stay_within.Goals as goal

pub returns : goal.returns
returns c = unreached_contexts_stay_within
