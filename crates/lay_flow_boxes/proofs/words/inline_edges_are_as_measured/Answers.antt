use Rattle.lay_flow_boxes.proofs.WordsLemmas.InlineEdges.{inline_edges_lem}
use Rattle.lay_flow_boxes.proofs.words.inline_edges_are_as_measured.Goals as goal

pub returns : goal.returns
returns c = inline_edges_lem
