use Rattle.std.proofs.Common.{◌-◌}
use Rattle.lay_table_sizes.proofs.CellSteps.{WidthsFrom}
use Rattle.lay_table_sizes.proofs.content_widths.content_widths.Given as goal

-- the last cells are done
abbrev pub invariant-loop-done : goal.invariant-loop-done
invariant-loop-done l = WidthsFrom l.boxes l.inner l.grid.cells l.grid.columns (l.last - l.done) l.widths.items
