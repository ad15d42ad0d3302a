use Rattle.std.proofs.Common.{length, All}
use Rattle.lay_box_cases.specs.Small.{IsSmallCell}
use Rattle.lay_box_cases.proofs.grids.first_cells.Given as goal

abbrev pub invariant-loop-word : goal.invariant-loop-word
invariant-loop-word l = All (IsSmallCell (length l.columns)) l.cells.items
