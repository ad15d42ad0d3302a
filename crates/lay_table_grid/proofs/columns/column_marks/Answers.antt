use Rattle.std.proofs.Common.{arith}
use Rattle.lay_table_grid.proofs.ColumnSteps.{marks_done}
use Rattle.lay_table_grid.proofs.columns.column_marks.Goals as goal

pub returns : goal.returns
returns c = marks_done _ c.loop-k.k _ (omega arith) c.loop-k.invariant
