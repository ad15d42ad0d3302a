use Rattle.lay_valign.specs.Pass.Columns.{RootsTo}
use Rattle.lay_valign.proofs.roots.roots_of.Given as goal

abbrev pub invariant-loop-k : goal.invariant-loop-k
invariant-loop-k l = RootsTo l.parts l.k l.roots.items
