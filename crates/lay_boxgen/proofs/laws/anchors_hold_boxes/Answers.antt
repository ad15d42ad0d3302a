use Rattle.lay_boxgen.proofs.WholeParts.{anchors_hold_boxes}
use Rattle.lay_boxgen.proofs.laws.anchors_hold_boxes.Goals as goal

pub returns : goal.returns
returns c = anchors_hold_boxes
