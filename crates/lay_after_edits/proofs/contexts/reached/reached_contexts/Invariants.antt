use Rattle.std.proofs.Common.{◌≡◌, length}
use Rattle.lay_after_edits.specs.Contexts.Near.{AreReachedTo}
use Rattle.lay_after_edits.proofs.contexts.reached.reached_contexts.Given as goal

abbrev pub invariant-loop-k : goal.invariant-loop-k
invariant-loop-k l = record {
  count : length l.reached.items ≡ length l.places;
  to : AreReachedTo l.of.doc.now.nodes l.near.items l.made l.reached.items l.k;
}
