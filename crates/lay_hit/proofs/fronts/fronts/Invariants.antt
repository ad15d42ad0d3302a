use Rattle.std.proofs.Common.{◌≤◌, length}
use Rattle.lay_hit.specs.Waiting.{AreWaiting}
use Rattle.lay_hit.proofs.fronts.fronts.Given as goal

abbrev pub invariant-loop-k : goal.invariant-loop-k
invariant-loop-k l = record {
  low : 1 ≤ l.k;
  high : l.k ≤ length l.q.doc.now.nodes;
  fronts : AreWaiting l.q l.fronts.items l.k;
}

abbrev pub decreases-loop-k : goal.decreases-loop-k
decreases-loop-k l = l.k
