use Rattle.std.proofs.Common.{◌≡◌, ◌+ℤ◌, drop}
use Rattle.lay_grid.specs.Automatic.AutoColumns.{sum_max}
use Rattle.lay_table_sizes.proofs.contents.maximums.Given as goal

abbrev pub invariant-loop-k : goal.invariant-loop-k
invariant-loop-k l = l.total.0 +ℤ sum_max (drop l.k l.bounds) ≡ sum_max l.bounds
