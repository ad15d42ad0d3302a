use Rattle.std.proofs.Common.{◌≡◌, ◌<◌, ℕ, length}
use Rattle.lay_placement.specs.OnLines.{on_lines_at, on_lines_of}
use Rattle.lay_placement.proofs.on_lines.on_lines_of_each.Given as goal

abbrev pub invariant-loop-k : goal.invariant-loop-k
invariant-loop-k l = record {
  count : length l.all.items ≡ l.k;
  each : (j : ℕ) → j < l.k → on_lines_at l.all.items j ≡ on_lines_of l.input l.places j;
}
