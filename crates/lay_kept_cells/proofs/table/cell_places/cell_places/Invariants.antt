use Rattle.std.proofs.Common.{◌≡◌, length}
use Rattle.lay_kept_cells.specs.Table.CellPlaces.{ArePlacesTo}
use Rattle.lay_kept_cells.proofs.table.cell_places.cell_places.Given as goal

abbrev pub invariant-loop-k : goal.invariant-loop-k
invariant-loop-k l = record {
  count : length l.places.items ≡ length l.contexts;
  noted : ArePlacesTo l.cells l.places.items l.k;
}
