use Rattle.std.proofs.Common.{◌-◌}
use Rattle.lay_table_sizes.proofs.CellSteps.{CellsFrom}
use Rattle.lay_table_sizes.proofs.cells.cells_of.Given as goal

-- the last cells are done
abbrev pub invariant-loop-done : goal.invariant-loop-done
invariant-loop-done l = CellsFrom l.grid.spacing.across l.columns l.grid.cells l.count (l.last - l.done) l.sizes.items
