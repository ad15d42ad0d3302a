use Rattle.lay_hit.proofs.EdgePoints.{empty_hold_nothing_lem}
use Rattle.lay_hit.proofs.laws.empty_hold_nothing.Goals as goal

pub returns : goal.returns
returns c = empty_hold_nothing_lem
