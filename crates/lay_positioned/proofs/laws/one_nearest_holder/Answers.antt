use Rattle.lay_positioned.proofs.OneSetting.{one_nearest_holder_lem}
use Rattle.lay_positioned.proofs.laws.one_nearest_holder.Goals as goal

pub returns : goal.returns
returns c = one_nearest_holder_lem
