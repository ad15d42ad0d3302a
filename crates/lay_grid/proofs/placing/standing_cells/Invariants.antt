use Rattle.std.proofs.Common.{◌≡◌, ◌+◌, ◌<◌, ◌++◌, drop}
use Rattle.lay_grid.specs.Areas.{areas_from, rows_left}
use Rattle.lay_grid.specs.Places.{areas_of}
use Rattle.lay_grid.specs.Pass.Known.{Known}
use Rattle.lay_grid.proofs.placing.standing_cells.Given as goal

abbrev pub invariant-loop-row : goal.invariant-loop-row
invariant-loop-row l = record {
  known : Known l.cells.items l.busy.items l.row 0;
  group : l.row < l.end → l.end ≡ l.row + rows_left (drop l.row l.rows);
  areas : areas_of l.cells.items ++ areas_from l.row (drop l.row l.rows) ≡ areas_from 0 l.rows;
}
