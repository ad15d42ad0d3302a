use Rattle.std.proofs.Common.{◌≡◌, ℕ, ◌<◌, ◌≤◌, slice_index}
use Rattle.lay_doc.specs.Document.{parents_of}
use Rattle.lay_doc.specs.Tree.{children_before}
use Rattle.lay_doc.proofs.placing.slot.Given as goal

abbrev pub invariant-loop-at : goal.invariant-loop-at
invariant-loop-at l = record {
  below : (j : ℕ) → l.parent < j → j < l.at → l.parent ≤ slice_index (parents_of l.nodes) j;
  seen : children_before (parents_of l.nodes) l.parent l.at ≡ l.seen;
  more : l.seen ≤ l.index;
}
