use Rattle.lay_cascade.specs.ClassSets.{AreSetsTo}
use Rattle.lay_cascade.proofs.class_sets.sets_of.Given as goal

abbrev pub invariant-loop-k : goal.invariant-loop-k
invariant-loop-k l = AreSetsTo l.k l.names l.sets.items
