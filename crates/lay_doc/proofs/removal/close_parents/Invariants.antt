use Rattle.std.proofs.Common.{◌≡◌, ◌++◌, take, drop}
use Rattle.std.specs.Prelude.{map}
use Rattle.lay_doc.specs.Removal.{moved_back}
use Rattle.lay_doc.proofs.removal.close_parents.Given as goal

abbrev pub invariant-loop-k : goal.invariant-loop-k
invariant-loop-k l = l.nodes.items ≡ map (moved_back l.from l.to) (take l.k l.fn.nodes.items) ++ drop l.k l.fn.nodes.items
