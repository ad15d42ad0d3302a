use Rattle.std.proofs.Common.{ℕ, ◌<◌, ◌≤◌, ◌+◌, slice_index}
use Rattle.lay_positioned.proofs.level_column.level_count.Given as goal

-- the count of the first ones
abbrev pub invariant-loop-k : goal.invariant-loop-k
invariant-loop-k l = record {
  some : 0 < l.count;
  above : (j : ℕ) → j < l.k → slice_index l.levels j < l.count;
  least : (c : ℕ) → 0 < c → ((j : ℕ) → j < l.k → slice_index l.levels j < c) → l.count ≤ c;
  small : l.count ≤ l.k + 1;
}
