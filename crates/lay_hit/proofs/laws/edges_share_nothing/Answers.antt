use Rattle.lay_hit.proofs.EdgePoints.{edges_share_nothing_lem}
use Rattle.lay_hit.proofs.laws.edges_share_nothing.Goals as goal

pub returns : goal.returns
returns c = edges_share_nothing_lem
