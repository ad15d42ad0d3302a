use Rattle.lay_table.proofs.SomeTableRows.{some_table_rows_lem}
use Rattle.lay_table.proofs.row_laws.some_table_rows.Goals as goal

pub returns : goal.returns
returns c = some_table_rows_lem
