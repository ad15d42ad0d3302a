use Rattle.lay_contexts.proofs.EditedLemmas.EditedContexts.{unreached_contexts_keep_boxes}
use Rattle.lay_contexts.proofs.edited.laws.unreached_contexts_keep_boxes.Goals as goal

pub returns : goal.returns
returns c = unreached_contexts_keep_boxes
