use Rattle.std.proofs.Common.{◌≡◌, map}
use Rattle.std.specs.List.{range_with_len}
use Rattle.lay_shape.specs.Levels.{level_of}
use Rattle.lay_shape.proofs.levels.levels.Given as goal

abbrev pub invariant-loop-i : goal.invariant-loop-i
invariant-loop-i l = l.levels.items ≡ map (level_of l.contexts) (range_with_len 0 l.i)
