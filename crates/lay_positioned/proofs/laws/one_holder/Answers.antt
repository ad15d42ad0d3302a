use Rattle.lay_positioned.proofs.OneHolder.{one_holder_lem}
use Rattle.lay_positioned.proofs.laws.one_holder.Goals as goal

pub returns : goal.returns
returns c = one_holder_lem
