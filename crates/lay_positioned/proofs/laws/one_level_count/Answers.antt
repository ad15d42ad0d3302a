use Rattle.lay_positioned.proofs.OneLevels.{one_level_count_lem}
use Rattle.lay_positioned.proofs.laws.one_level_count.Goals as goal

pub returns : goal.returns
returns c = one_level_count_lem
