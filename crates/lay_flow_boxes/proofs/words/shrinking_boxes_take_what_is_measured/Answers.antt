use Rattle.lay_flow_boxes.proofs.WordsLemmas.ShrinkingBoxes.{shrinking_boxes_lem}
use Rattle.lay_flow_boxes.proofs.words.shrinking_boxes_take_what_is_measured.Goals as goal

pub returns : goal.returns
returns c = shrinking_boxes_lem
