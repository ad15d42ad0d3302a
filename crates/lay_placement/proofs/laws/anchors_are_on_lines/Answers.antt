use Rattle.lay_placement.proofs.AnchorsOnLines.{anchors_are_on_lines_lem}
use Rattle.lay_placement.proofs.laws.anchors_are_on_lines.Goals as goal

pub returns : goal.returns
returns c = anchors_are_on_lines_lem
