use Rattle.std.proofs.Common.{◌≡◌, ◌++◌, drop}
use Rattle.lay_grid.specs.Automatic.Bounds.{maximum_spans}
use Rattle.lay_grid.proofs.automatic.bounds.maximums.Given as goal

abbrev pub invariant-loop-cell : goal.invariant-loop-cell
invariant-loop-cell l = l.spans.items ++ maximum_spans (drop l.cell-index l.cells) ≡ maximum_spans l.cells
