use Rattle.lay_contexts.proofs.EditedLemmas.BoundedTouch.{edits_touch_no_others}
use Rattle.lay_contexts.proofs.edited.laws.edits_touch_no_others.Goals as goal

pub returns : goal.returns
returns c = edits_touch_no_others
