use Rattle.lay_flow_boxes.proofs.LevelsAgree.{widths_agree_lem}
use Rattle.lay_flow_boxes.proofs.laws.widths_agree_on_lines.Goals as goal

pub returns : goal.returns
returns c = widths_agree_lem
