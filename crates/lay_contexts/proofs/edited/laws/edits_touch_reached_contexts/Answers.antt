use Rattle.lay_contexts.proofs.EditedLemmas.EditedContexts.{edits_touch_reached_contexts}
use Rattle.lay_contexts.proofs.edited.laws.edits_touch_reached_contexts.Goals as goal

pub returns : goal.returns
returns c = edits_touch_reached_contexts
