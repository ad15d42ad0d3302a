use Rattle.lay_contexts.proofs.StandingAnchors.{anchors_stand}
use Rattle.lay_contexts.proofs.formatting_laws.anchors_stand_for_absolute_boxes.Goals as goal

pub returns : goal.returns
returns c = anchors_stand
