use Rattle.std.proofs.Common.{◌≡◌, ◌++◌, drop}
use Rattle.lay_grid.specs.Slots.{SpanRows}
use Rattle.lay_table_grid.specs.Pass.SpanColumns.{SpanColumns}
use Rattle.lay_table_grid.specs.TableBoxes.{row_specs}
use Rattle.lay_table_grid.proofs.cells.row_specs.Given as goal

abbrev pub invariant-loop-row : goal.invariant-loop-row
invariant-loop-row l = record {
  specs : l.specs.items ++ row_specs l.fn.boxes (drop l.row-index l.rows) ≡ row_specs l.fn.boxes l.rows;
  rows : SpanRows l.specs.items;
  columns : SpanColumns l.specs.items;
}
