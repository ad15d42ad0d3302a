use Rattle.lay_contexts.proofs.EditedLemmas.BoundedTouch.{anchors_touch_nothing_around}
use Rattle.lay_contexts.proofs.edited.laws.anchors_touch_nothing_around.Goals as goal

pub returns : goal.returns
returns c = anchors_touch_nothing_around
