use Rattle.lay_drawing.proofs.InBoxes.{in_boxes_lem}
use Rattle.lay_drawing.proofs.label.labels_are_in_boxes.Goals as goal

pub returns : goal.returns
returns c = in_boxes_lem
