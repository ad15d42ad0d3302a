use Rattle.lay_flow_boxes.proofs.WordsLemmas.Pens.{words_measure_as_their_clusters_lem}
use Rattle.lay_flow_boxes.proofs.words.words_measure_as_their_clusters.Goals as goal

pub returns : goal.returns
returns c = words_measure_as_their_clusters_lem
