use Rattle.std.proofs.Common.{◌<◌, ℕ, length, slice_index}
use Rattle.lay_contexts.specs.ContextTree.{IsAround}
use Rattle.lay_after_edits.proofs.contexts.reach.number_around.Given as goal

-- the context around the node is that around the one that the walk has come to
abbrev pub invariant-loop-at : goal.invariant-loop-at
invariant-loop-at l =
    (l.at < length l.of.doc.now.nodes)
    × ((i : ℕ) → i < length l.places → IsAround l.of.doc.now.nodes l.of.was.now l.place (slice_index l.places i)
    → IsAround l.of.doc.now.nodes l.of.was.now l.at (slice_index l.places i))

abbrev pub decreases-loop-at : goal.decreases-loop-at
decreases-loop-at l = l.at
