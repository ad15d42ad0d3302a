use Rattle.std.proofs.Common.{◌≡◌, ◌*◌, ◌^◌, pos, neg_ℤ, ◌+ℤ◌, ◌≤ℤ◌, drop}
use Rattle.lay_grid.specs.Shares.{sum_of}
use Rattle.lay_grid.proofs.heights.sum_from.Given as goal

abbrev pub invariant-loop-k : goal.invariant-loop-k
invariant-loop-k l = record {
  value : (l.sum +ℤ sum_of (drop l.k l.above)) ≡ sum_of (drop l.fn.row l.above);
  below : l.sum ≤ℤ pos (2 ^ 62 * l.k);
  above : neg_ℤ (pos (2 ^ 62 * l.k)) ≤ℤ l.sum;
}
