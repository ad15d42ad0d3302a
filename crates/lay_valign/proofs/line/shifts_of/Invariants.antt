use Rattle.lay_valign.specs.Pass.Shifts.{AreShiftsTo}
use Rattle.lay_valign.proofs.line.shifts_of.Given as goal

abbrev pub invariant-loop-k : goal.invariant-loop-k
invariant-loop-k l = AreShiftsTo l.parts l.subtrees l.above.0 l.below.0 l.k l.shifts.items
