use Rattle.lay_table_sizes.proofs.ColumnSteps.{ColumnsTo}
use Rattle.lay_table_sizes.proofs.preferred_widths.column_widths.Given as goal

abbrev pub invariant-loop-i : goal.invariant-loop-i
invariant-loop-i l = ColumnsTo l.owns.items l.contents.items l.i l.widths.items
