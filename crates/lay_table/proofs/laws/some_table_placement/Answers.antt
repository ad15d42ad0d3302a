use Rattle.lay_table.proofs.SomeTable.{some_table_placement_lem}
use Rattle.lay_table.proofs.laws.some_table_placement.Goals as goal

pub returns : goal.returns
returns c = some_table_placement_lem c.some_flow_of.ensures
