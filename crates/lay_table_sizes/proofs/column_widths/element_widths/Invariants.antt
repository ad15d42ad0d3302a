use Rattle.std.proofs.Common.{◌≡◌}
use Rattle.lay_table_sizes.specs.ColumnWidths.{element_widths}
use Rattle.lay_table_sizes.proofs.column_widths.element_widths.Given as goal

abbrev pub invariant-loop-i : goal.invariant-loop-i
invariant-loop-i l = l.widths.items ≡ element_widths l.left l.boxes l.places l.i
