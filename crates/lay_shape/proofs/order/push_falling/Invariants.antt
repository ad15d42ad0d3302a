use Rattle.std.proofs.Common.{◌≡◌, ◌++◌, map, reverse, take}
use Rattle.lay_shape.specs.Dependencies.{in_phase}
use Rattle.lay_shape.proofs.order.push_falling.Given as goal

abbrev pub invariant-loop-k : goal.invariant-loop-k
invariant-loop-k l = l.cells.items ≡ l.fn.cells.items ++ map (in_phase l.phase) (take l.k (reverse l.numbers))
