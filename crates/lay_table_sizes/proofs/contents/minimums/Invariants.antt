use Rattle.std.proofs.Common.{◌≡◌, ◌+ℤ◌, drop}
use Rattle.lay_grid.specs.Automatic.AutoColumns.{sum_min}
use Rattle.lay_table_sizes.proofs.contents.minimums.Given as goal

abbrev pub invariant-loop-k : goal.invariant-loop-k
invariant-loop-k l = l.total.0 +ℤ sum_min (drop l.k l.bounds) ≡ sum_min l.bounds
