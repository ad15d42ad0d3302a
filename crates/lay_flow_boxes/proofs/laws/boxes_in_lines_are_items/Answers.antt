use Rattle.lay_flow_boxes.proofs.LinesAreItems.{boxes_in_lines_lem}
use Rattle.lay_flow_boxes.proofs.laws.boxes_in_lines_are_items.Goals as goal

pub returns : goal.returns
returns c = boxes_in_lines_lem
