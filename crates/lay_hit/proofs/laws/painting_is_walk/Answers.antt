use Rattle.lay_hit.proofs.PaintedOnce.{painting_is_walk_lem}
use Rattle.lay_hit.proofs.laws.painting_is_walk.Goals as goal

pub returns : goal.returns
returns c = painting_is_walk_lem
