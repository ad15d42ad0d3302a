use Rattle.lay_abspos.proofs.SomeAbsoluteBox.{some_absolute_sizes_lem}
use Rattle.lay_abspos.proofs.setting_laws.some_absolute_sizes.Goals as goal

pub returns : goal.returns
returns c = some_absolute_sizes_lem
