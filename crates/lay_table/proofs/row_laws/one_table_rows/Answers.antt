use Rattle.lay_table.proofs.OneTableRows.{one_table_rows_lem}
use Rattle.lay_table.proofs.row_laws.one_table_rows.Goals as goal

pub returns : goal.returns
returns c = one_table_rows_lem
