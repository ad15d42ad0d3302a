use Rattle.lay_table_grid.specs.Pass.ColumnMarks.{ColumnMarksTo}
use Rattle.lay_table_grid.proofs.columns.column_marks.Given as goal

abbrev pub invariant-loop-k : goal.invariant-loop-k
invariant-loop-k l = ColumnMarksTo l.boxes l.k l.marks.items
