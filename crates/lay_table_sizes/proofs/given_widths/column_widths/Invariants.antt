use Rattle.std.proofs.Common.{◌≡◌}
use Rattle.lay_table_sizes.specs.GivenWidths.{column_widths}
use Rattle.lay_table_sizes.proofs.given_widths.column_widths.Given as goal

abbrev pub invariant-loop-i : goal.invariant-loop-i
invariant-loop-i l = l.widths.items ≡ column_widths l.boxes l.places l.i
