use Rattle.std.proofs.Common.{◌≡◌, ◌++◌, map, take}
use Rattle.lay_shape.specs.Dependencies.{in_phase}
use Rattle.lay_shape.proofs.order.push_rising.Given as goal

abbrev pub invariant-loop-k : goal.invariant-loop-k
invariant-loop-k l = l.cells.items ≡ l.fn.cells.items ++ map (in_phase l.phase) (take l.k l.numbers)
