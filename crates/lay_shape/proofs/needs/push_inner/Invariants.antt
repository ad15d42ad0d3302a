use Rattle.std.proofs.Common.{◌≡◌, ◌++◌, filter, map, take}
use Rattle.lay_contexts.specs.Contexts.{context_at}
use Rattle.lay_shape.specs.Dependencies.{in_phase, is_inner_flow}
use Rattle.lay_shape.specs.Keys.{key_of}
use Rattle.lay_shape.proofs.needs.push_inner.Given as goal

abbrev pub invariant-loop-k : goal.invariant-loop-k
invariant-loop-k l = l.keys.items ≡ l.fn.keys.items ++ map (key_of l.contexts) (map (in_phase l.phase) (filter (is_inner_flow l.contexts) (take l.k (context_at l.contexts l.i).inner)))
