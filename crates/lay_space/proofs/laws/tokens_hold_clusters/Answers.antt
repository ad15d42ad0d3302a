use Rattle.lay_space.proofs.SegmentItems.{tokens_hold_clusters_lem}
use Rattle.lay_space.proofs.laws.tokens_hold_clusters.Goals as goal

pub returns : goal.returns
returns c = tokens_hold_clusters_lem
