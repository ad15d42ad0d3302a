use Rattle.std.proofs.Common.{◌≡◌, take}
use Rattle.lay_table_grid.specs.PlacedCells.{places_of_cells, stands_of}
use Rattle.lay_table_grid.proofs.placed.joined.Given as goal

abbrev pub invariant-loop-k : goal.invariant-loop-k
invariant-loop-k l = record {
  places : places_of_cells l.placed.items ≡ take l.k l.places;
  cells : stands_of l.placed.items ≡ take l.k l.cells;
}
