use Rattle.std.proofs.Common.{ℕ, ◌<◌, ◌≤◌, slice_index}
use Rattle.lay_doc.specs.Document.{parents_of}
use Rattle.lay_doc.proofs.placing.subtree_end.Given as goal

abbrev pub invariant-loop-at : goal.invariant-loop-at
invariant-loop-at l = (j : ℕ) → l.parent < j → j < l.at → l.parent ≤ slice_index (parents_of l.nodes) j
