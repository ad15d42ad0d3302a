use Rattle.std.proofs.Common.{◌≡◌, ◌++◌, take, drop}
use Rattle.std.specs.Prelude.{map}
use Rattle.lay_doc.specs.Tree.{shifted}
use Rattle.lay_doc.proofs.index.shift.Given as goal

abbrev pub invariant-loop-place : goal.invariant-loop-place
invariant-loop-place l = l.place-items ≡ map (shifted l.at) (take l.place-index l.fn.places.items) ++ drop l.place-index l.fn.places.items
