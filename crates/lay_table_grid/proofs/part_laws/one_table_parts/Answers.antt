use Rattle.lay_table_grid.proofs.OneTableParts.{one_table_parts_lem}
use Rattle.lay_table_grid.proofs.part_laws.one_table_parts.Goals as goal

pub returns : goal.returns
returns c = one_table_parts_lem
