use Rattle.std.proofs.Common.{◌≡◌, ◌*◌, ◌^◌, drop, pos, ◌+ℤ◌, ◌≤ℤ◌}
use Rattle.lay_grid.specs.Automatic.AutoColumns.{sum_max}
use Rattle.lay_grid.proofs.automatic.columns.maximums.Given as goal

abbrev pub invariant-loop-bound : goal.invariant-loop-bound
invariant-loop-bound l = record {
  value : (l.sum +ℤ sum_max (drop l.bound-index l.bounds)) ≡ sum_max l.bounds;
  least : pos 0 ≤ℤ l.sum;
  most : l.sum ≤ℤ pos (2 ^ 62 * l.bound-index);
}
