use Rattle.lay_hit.proofs.LastHolding.{one_last_holding_lem}
use Rattle.lay_hit.proofs.laws.one_last_holding.Goals as goal

pub returns : goal.returns
returns c = one_last_holding_lem
