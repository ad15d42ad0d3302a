use Rattle.std.proofs.Common.{◌≡◌, ◌+ℤ◌, drop}
use Rattle.lay_grid.specs.Shares.{sum_of}
use Rattle.lay_table_sizes.proofs.cells.sum_of.Given as goal

abbrev pub invariant-loop-k : goal.invariant-loop-k
invariant-loop-k l = l.total.0 +ℤ sum_of (drop l.k l.widths) ≡ sum_of l.widths
