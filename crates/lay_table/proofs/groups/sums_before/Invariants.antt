use Rattle.std.proofs.Common.{◌≡◌, ◌<◌, ℕ, length, slice_index}
use Rattle.lay_table.specs.GroupCounts.{sum_before}
use Rattle.lay_table.proofs.groups.sums_before.Given as goal

abbrev pub invariant-loop-k : goal.invariant-loop-k
invariant-loop-k l = record {
  count : length l.sums.items ≡ l.k;
  each : (j : ℕ) → j < l.k → slice_index l.sums.items j ≡ sum_before l.counts j;
  next : l.sum ≡ sum_before l.counts l.k;
}
