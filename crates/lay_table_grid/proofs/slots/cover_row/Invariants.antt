use Rattle.std.proofs.Common.{◌-◌, ◌≤◌, length}
use Rattle.lay_table_grid.specs.Pass.Slots.{CoveredRow}
use Rattle.lay_table_grid.proofs.slots.cover_row.Given as goal

abbrev pub invariant-loop-column : goal.invariant-loop-column
invariant-loop-column l = record {
  covered : CoveredRow l.k l.left (l.column - l.left) l.fn.row.items l.row.items;
  long : l.column ≤ length l.row.items;
}
