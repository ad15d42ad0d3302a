use Rattle.lay_positioned.proofs.OneLevels.{one_levels_lem}
use Rattle.lay_positioned.proofs.laws.one_levels.Goals as goal

pub returns : goal.returns
returns c = one_levels_lem
