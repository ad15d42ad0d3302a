use Rattle.std.proofs.Common.{◌≡◌, ◌+◌, ◌*◌, ◌^◌, drop, pos, neg_ℤ, ◌-ℤ◌, ◌≤ℤ◌}
use Rattle.lay_grid.specs.Shares.{sum_own}
use Rattle.lay_grid.proofs.shares.rest_of.Given as goal

abbrev pub invariant-loop-own : goal.invariant-loop-own
invariant-loop-own l = record {
  value : (l.rest -ℤ sum_own (drop l.own-index l.owns)) ≡ (l.fn.asked -ℤ sum_own l.owns);
  below : l.rest ≤ℤ pos (2 ^ 96 + 2 ^ 62 * l.own-index);
  above : neg_ℤ (pos (2 ^ 96 + 2 ^ 62 * l.own-index)) ≤ℤ l.rest;
}
