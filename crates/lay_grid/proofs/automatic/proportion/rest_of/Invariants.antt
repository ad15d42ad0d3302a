use Rattle.std.proofs.Common.{◌≡◌, drop, ◌-ℤ◌, ◌≤ℤ◌}
use Rattle.lay_grid.specs.Automatic.AutoColumns.{sum_min}
use Rattle.lay_grid.proofs.automatic.proportion.rest_of.Given as goal

abbrev pub invariant-loop-bound : goal.invariant-loop-bound
invariant-loop-bound l = record {
  value : (l.rest -ℤ sum_min (drop l.bound-index l.bounds)) ≡ (l.fn.space.0 -ℤ sum_min l.bounds);
  most : l.rest ≤ℤ l.fn.space.0;
}
