use Rattle.lay_hit.proofs.EdgePoints.{parts_hold_all_lem}
use Rattle.lay_hit.proofs.laws.parts_hold_all.Goals as goal

pub returns : goal.returns
returns c = parts_hold_all_lem
