use Rattle.lay_positioned.proofs.OneSetting.{settings_come_of_ways_lem}
use Rattle.lay_positioned.proofs.laws.settings_come_of_ways.Goals as goal

pub returns : goal.returns
returns c = settings_come_of_ways_lem
