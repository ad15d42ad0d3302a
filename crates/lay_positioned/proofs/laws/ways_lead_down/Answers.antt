use Rattle.lay_positioned.proofs.OneLevels.{ways_lead_down_lem}
use Rattle.lay_positioned.proofs.laws.ways_lead_down.Goals as goal

pub returns : goal.returns
returns c = ways_lead_down_lem
