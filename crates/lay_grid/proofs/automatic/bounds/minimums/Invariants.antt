use Rattle.std.proofs.Common.{◌≡◌, ◌++◌, drop}
use Rattle.lay_grid.specs.Automatic.Bounds.{minimum_spans}
use Rattle.lay_grid.proofs.automatic.bounds.minimums.Given as goal

abbrev pub invariant-loop-cell : goal.invariant-loop-cell
invariant-loop-cell l = l.spans.items ++ minimum_spans (drop l.cell-index l.cells) ≡ minimum_spans l.cells
