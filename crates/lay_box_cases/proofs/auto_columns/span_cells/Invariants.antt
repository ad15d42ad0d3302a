use Rattle.std.proofs.Common.{All}
use Rattle.lay_grid.specs.Automatic.Fit.{CellFits}
use Rattle.lay_box_cases.proofs.auto_columns.span_cells.Given as goal

abbrev pub invariant-loop-word : goal.invariant-loop-word
invariant-loop-word l = All (CellFits l.fn.columns) l.cells.items
