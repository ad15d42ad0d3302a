use Rattle.lay_positioned.proofs.SettingValues.{settings_are_values_lem}
use Rattle.lay_positioned.proofs.laws.settings_are_values.Goals as goal

pub returns : goal.returns
returns c = settings_are_values_lem
