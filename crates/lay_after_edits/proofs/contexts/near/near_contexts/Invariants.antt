use Rattle.lay_after_edits.specs.Contexts.Near.{IsNearTo}
use Rattle.lay_after_edits.proofs.contexts.near.near_contexts.Given as goal

abbrev pub invariant-loop-k : goal.invariant-loop-k
invariant-loop-k l = IsNearTo l.of.doc.now.nodes l.of.was.now l.places l.near.items l.next l.k
