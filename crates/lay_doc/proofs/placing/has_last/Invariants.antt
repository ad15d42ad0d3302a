use Rattle.std.proofs.Common.{ℕ, ◌<◌, ◌≤◌, slice_index, length}
use Rattle.lay_doc.specs.Document.{parents_of}
use Rattle.lay_doc.proofs.placing.has_last.Given as goal

abbrev pub invariant-loop-at : goal.invariant-loop-at
invariant-loop-at l = record {
  within : l.at < length l.nodes;
  behind : (k : ℕ) → l.at < k → k < length l.nodes → l.at ≤ slice_index (parents_of l.nodes) k;
}

abbrev pub decreases-loop-at : goal.decreases-loop-at
decreases-loop-at l = l.at
