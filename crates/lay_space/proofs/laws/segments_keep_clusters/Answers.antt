use Rattle.lay_space.proofs.SegmentItems.{segments_keep_clusters_lem}
use Rattle.lay_space.proofs.laws.segments_keep_clusters.Goals as goal

pub returns : goal.returns
returns c = segments_keep_clusters_lem
