use Rattle.lay_abspos.proofs.SomeAbsoluteBox.{some_table_left_lem}
use Rattle.lay_abspos.proofs.setting_laws.some_table_left.Goals as goal

pub returns : goal.returns
returns c = some_table_left_lem
