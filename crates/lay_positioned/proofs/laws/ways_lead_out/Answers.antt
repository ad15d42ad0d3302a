use Rattle.lay_positioned.proofs.OneLevels.{ways_lead_out_lem}
use Rattle.lay_positioned.proofs.laws.ways_lead_out.Goals as goal

pub returns : goal.returns
returns c = ways_lead_out_lem
