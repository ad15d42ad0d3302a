use Rattle.lay_flow_boxes.proofs.WordsLemmas.MeasuredPens.{lines_come_as_far_lem}
use Rattle.lay_flow_boxes.proofs.words.lines_come_as_far_as_measured.Goals as goal

pub returns : goal.returns
returns c = lines_come_as_far_lem
