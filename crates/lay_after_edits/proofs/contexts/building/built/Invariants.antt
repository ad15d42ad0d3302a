use Rattle.std.proofs.Common.{map}
use Rattle.std.specs.Arc.{arc_value}
use Rattle.lay_after_edits.specs.Contexts.Building.{AreBuiltTo}
use Rattle.lay_after_edits.proofs.contexts.building.built.Given as goal

abbrev pub invariant-loop-i : goal.invariant-loop-i
invariant-loop-i l = AreBuiltTo l.before l.of.later.now.nodes l.of.styles.now l.places (map arc_value l.items.items) l.reached.items l.i
