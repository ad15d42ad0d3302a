use Rattle.lay_placement.proofs.AnchorContents.{anchors_add_nothing_lem}
use Rattle.lay_placement.proofs.laws.anchors_add_nothing_to_lines.Goals as goal

pub returns : goal.returns
returns c = anchors_add_nothing_lem
