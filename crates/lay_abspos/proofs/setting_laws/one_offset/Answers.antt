use Rattle.lay_abspos.proofs.OneAbsoluteBox.{one_offset_lem}
use Rattle.lay_abspos.proofs.setting_laws.one_offset.Goals as goal

pub returns : goal.returns
returns c = one_offset_lem
