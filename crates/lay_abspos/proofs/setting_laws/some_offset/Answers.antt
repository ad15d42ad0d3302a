use Rattle.lay_abspos.proofs.SomeAbsoluteBox.{some_offset_lem}
use Rattle.lay_abspos.proofs.setting_laws.some_offset.Goals as goal

pub returns : goal.returns
returns c = some_offset_lem
