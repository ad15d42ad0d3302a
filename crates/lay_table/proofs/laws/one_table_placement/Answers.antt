use Rattle.lay_table.proofs.OneTable.{one_table_placement_lem}
use Rattle.lay_table.proofs.laws.one_table_placement.Goals as goal

pub returns : goal.returns
returns c = one_table_placement_lem
