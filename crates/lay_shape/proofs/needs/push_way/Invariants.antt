use Rattle.std.proofs.Common.{◌≡◌, ◌++◌, flat_map, map, take}
use Rattle.lay_shape.specs.Dependencies.{on_way}
use Rattle.lay_shape.specs.Keys.{key_of}
use Rattle.lay_shape.proofs.needs.push_way.Given as goal

abbrev pub invariant-loop-place : goal.invariant-loop-place
invariant-loop-place l = l.keys.items ≡ l.fn.keys.items ++ map (key_of l.contexts) (flat_map on_way (take l.place l.way.items))
