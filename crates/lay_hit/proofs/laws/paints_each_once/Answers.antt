use Rattle.lay_hit.proofs.PaintedOnce.{paints_each_once_lem}
use Rattle.lay_hit.proofs.laws.paints_each_once.Goals as goal

pub returns : goal.returns
returns c = paints_each_once_lem
