use Rattle.lay_table_grid.specs.Pass.ColumnMarks.{AreColumnsTo}
use Rattle.lay_table_grid.proofs.columns.column_boxes.Given as goal

abbrev pub invariant-loop-k : goal.invariant-loop-k
invariant-loop-k l = AreColumnsTo l.boxes l.k l.columns.items
