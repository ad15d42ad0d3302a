use Rattle.lay_contexts.proofs.ListedSteps.{PlacesTo}
use Rattle.lay_contexts.proofs.context_places.context_places.Given as goal

abbrev pub invariant-loop-k : goal.invariant-loop-k
invariant-loop-k l = PlacesTo l.doc.nodes l.computed l.places.items l.k
