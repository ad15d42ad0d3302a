use Rattle.std.proofs.Common.{◌≡◌, length}
use Rattle.lay_table.specs.NeedBounds.{NeedsFit}
use Rattle.lay_table.specs.RowNeeds.{needs_to}
use Rattle.lay_table.proofs.row_needs.needs_of.Given as goal

abbrev pub invariant-loop-c : goal.invariant-loop-c
invariant-loop-c l = record {
  are : l.needs.items ≡ needs_to l.input l.cells l.c;
  fit : NeedsFit (length l.input.table.grid.rows) l.needs.items;
}
