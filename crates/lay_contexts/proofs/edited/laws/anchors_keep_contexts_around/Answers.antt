use Rattle.lay_contexts.proofs.EditedLemmas.RestyledAnchors.{anchors_keep_contexts_around}
use Rattle.lay_contexts.proofs.edited.laws.anchors_keep_contexts_around.Goals as goal

pub returns : goal.returns
returns c = anchors_keep_contexts_around
