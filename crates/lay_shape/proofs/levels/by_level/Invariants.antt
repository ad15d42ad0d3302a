use Rattle.lay_shape.specs.Building.{AreByLevel}
use Rattle.lay_shape.proofs.levels.by_level.Given as goal

abbrev pub invariant-loop-i : goal.invariant-loop-i
invariant-loop-i l = AreByLevel l.contexts l.lists.items l.i
