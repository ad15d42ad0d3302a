use Rattle.lay_flow_boxes.proofs.WordsLemmas.PreferredRows.{minimum_width_lem}
use Rattle.lay_flow_boxes.proofs.words.minimum_width_holds_each_line.Goals as goal

pub returns : goal.returns
returns c = minimum_width_lem
