use Rattle.lay_positioned.proofs.LevelSteps.{LevelsTo}
use Rattle.lay_positioned.proofs.level_column.levels.Given as goal

abbrev pub invariant-loop-i : goal.invariant-loop-i
invariant-loop-i l = LevelsTo l.contexts l.levels.items l.i
