use Rattle.std.proofs.Common.{◌≡◌, ◌++◌, take, drop}
use Rattle.std.specs.Prelude.{map}
use Rattle.lay_doc.specs.Document.{moved}
use Rattle.lay_doc.proofs.insertion.shift_parents.Given as goal

abbrev pub invariant-loop-k : goal.invariant-loop-k
invariant-loop-k l = l.nodes.items ≡ map (moved l.at) (take l.k l.fn.nodes.items) ++ drop l.k l.fn.nodes.items
