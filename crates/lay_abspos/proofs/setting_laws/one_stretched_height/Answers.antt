use Rattle.lay_abspos.proofs.OneAbsoluteBox.{one_stretched_height_lem}
use Rattle.lay_abspos.proofs.setting_laws.one_stretched_height.Goals as goal

pub returns : goal.returns
returns c = one_stretched_height_lem
