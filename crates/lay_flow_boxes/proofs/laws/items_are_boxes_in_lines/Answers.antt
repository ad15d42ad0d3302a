use Rattle.lay_flow_boxes.proofs.LinesAreItems.{items_are_boxes_lem}
use Rattle.lay_flow_boxes.proofs.laws.items_are_boxes_in_lines.Goals as goal

pub returns : goal.returns
returns c = items_are_boxes_lem
