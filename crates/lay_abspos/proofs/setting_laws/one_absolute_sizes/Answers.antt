use Rattle.lay_abspos.proofs.OneAbsoluteBox.{one_absolute_sizes_lem}
use Rattle.lay_abspos.proofs.setting_laws.one_absolute_sizes.Goals as goal

pub returns : goal.returns
returns c = one_absolute_sizes_lem
