use Rattle.std.proofs.Common.{◌≡◌, length}
use Rattle.std.specs.List.{All}
use Rattle.lay_grid.specs.RowsFit.{RowCellFits}
use Rattle.lay_table.specs.TableRows.{bottoms_to}
use Rattle.lay_table.proofs.row_heights.bottoms_of.Given as goal

abbrev pub invariant-loop-c : goal.invariant-loop-c
invariant-loop-c l = record {
  are : l.bottoms.items ≡ bottoms_to l.input l.cells l.tracks l.c;
  fit : All (RowCellFits (length l.input.table.grid.rows)) l.bottoms.items;
}
