use Rattle.std.proofs.Common.{length, All}
use Rattle.lay_box_cases.specs.Small.{IsSmallNeed}
use Rattle.lay_box_cases.proofs.grids.row_cells.Given as goal

abbrev pub invariant-loop-word : goal.invariant-loop-word
invariant-loop-word l = All (IsSmallNeed (length l.rows)) l.cells.items
