use Rattle.lay_contexts.specs.ListedContexts.{AreStanding}
use Rattle.lay_contexts.proofs.standing.stands_of.Given as goal

abbrev pub invariant-loop-around : goal.invariant-loop-around
invariant-loop-around l = AreStanding l.of.doc.now.nodes l.of.computed.now l.of.places.now l.stands.items
