use Rattle.std.proofs.Common.{◌≡◌, ◌++◌, drop}
use Rattle.lay_table_grid.specs.TableBoxes.{cells_of_rows}
use Rattle.lay_table_grid.proofs.cells.cell_places.Given as goal

abbrev pub invariant-loop-row : goal.invariant-loop-row
invariant-loop-row l = l.places.items ++ cells_of_rows l.fn.boxes (drop l.row-index l.rows) ≡ cells_of_rows l.fn.boxes l.rows
