use Rattle.lay_abspos.proofs.SomeAbsoluteBox.{some_stretched_height_lem}
use Rattle.lay_abspos.proofs.setting_laws.some_stretched_height.Goals as goal

pub returns : goal.returns
returns c = some_stretched_height_lem
