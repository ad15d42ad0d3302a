use Rattle.std.proofs.Common.{ℕ, ◌+◌, ◌<◌, ◌≤◌, get_or}
use Rattle.lay_grid.specs.Pass.Known.{AreFree}
use Rattle.lay_grid.proofs.scan.free_left.Given as goal

abbrev pub invariant-loop-c : goal.invariant-loop-c
invariant-loop-c l = record {
  from : l.from ≤ l.left;
  order : l.left ≤ l.c;
  near : l.c ≤ l.left + l.columns;
  free : (c : ℕ) → l.left ≤ c → c < l.c → get_or l.busy c 0 ≤ l.row;
  least : (left : ℕ) → l.from ≤ left → AreFree l.busy l.row l.columns left → l.left ≤ left;
}
