use Rattle.lay_flow_boxes.proofs.WordsLemmas.PreferredRows.{preferred_width_lem}
use Rattle.lay_flow_boxes.proofs.words.preferred_width_breaks_nothing.Goals as goal

pub returns : goal.returns
returns c = preferred_width_lem
