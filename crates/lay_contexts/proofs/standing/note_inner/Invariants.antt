use Rattle.lay_contexts.specs.ListedContexts.{AreStanding}
use Rattle.lay_contexts.proofs.standing.note_inner.Given as goal

abbrev pub invariant-loop-at : goal.invariant-loop-at
invariant-loop-at l = AreStanding l.of.doc.now.nodes l.of.computed.now l.of.places.now l.stands.items
