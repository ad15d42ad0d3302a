use Rattle.lay_abspos.proofs.OneAbsoluteBox.{one_table_left_lem}
use Rattle.lay_abspos.proofs.setting_laws.one_table_left.Goals as goal

pub returns : goal.returns
returns c = one_table_left_lem
