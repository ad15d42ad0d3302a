use Rattle.std.proofs.Common.{◌≡◌, ℕ, ◌<◌, length}
use Rattle.std.specs.Int.{int_max}
use Rattle.lay_grid.specs.Shares.{width_at}
use Rattle.lay_grid.specs.Automatic.Bounds.{max_at, min_at}
use Rattle.lay_grid.proofs.automatic.bounds.paired.Given as goal

abbrev pub invariant-loop-k : goal.invariant-loop-k
invariant-loop-k l = record {
  as_many : length l.bounds.items ≡ l.k;
  min : (i : ℕ) → i < l.k → min_at l.bounds.items i ≡ width_at l.minimums i;
  max : (i : ℕ) → i < l.k → max_at l.bounds.items i ≡ int_max (width_at l.maximums i) (width_at l.minimums i);
}
