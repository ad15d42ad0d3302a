use Rattle.lay_contexts.proofs.ListedSteps.{SpotsTo}
use Rattle.lay_contexts.proofs.context_list.spots_of.Given as goal

abbrev pub invariant-loop-number : goal.invariant-loop-number
invariant-loop-number l = SpotsTo l.places l.stands l.spots.items l.number
