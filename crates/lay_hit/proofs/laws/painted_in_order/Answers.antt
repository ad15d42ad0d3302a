use Rattle.lay_hit.proofs.Stacked.{painted_in_order_lem}
use Rattle.lay_hit.proofs.laws.painted_in_order.Goals as goal

pub returns : goal.returns
returns c = painted_in_order_lem
