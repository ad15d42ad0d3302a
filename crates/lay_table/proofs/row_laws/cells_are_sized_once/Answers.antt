use Rattle.lay_table.proofs.OneTableRows.{cells_are_sized_once_lem}
use Rattle.lay_table.proofs.row_laws.cells_are_sized_once.Goals as goal

pub returns : goal.returns
returns c = cells_are_sized_once_lem
