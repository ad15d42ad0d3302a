use Rattle.std.proofs.Common.{◌≡◌, ℕ, ◌<◌, length, pos, ◌+ℤ◌}
use Rattle.lay_grid.specs.Columns.{part_of}
use Rattle.lay_grid.specs.Shares.{width_at}
use Rattle.lay_grid.specs.Automatic.Bounds.{max_at}
use Rattle.lay_grid.proofs.automatic.columns.beyond_maximums.Given as goal

abbrev pub invariant-loop-k : goal.invariant-loop-k
invariant-loop-k l = record {
  as_many : length l.widths.items ≡ l.k;
  each : (i : ℕ) → i < l.k → width_at l.widths.items i ≡ (max_at l.bounds i +ℤ pos (part_of l.fn.rest (length l.bounds) i));
}
