use Rattle.lay_valign.specs.Pass.Columns.{RisesTo}
use Rattle.lay_valign.proofs.rises.rises_of.Given as goal

abbrev pub invariant-loop-k : goal.invariant-loop-k
invariant-loop-k l = RisesTo l.parts l.k l.rises.items
