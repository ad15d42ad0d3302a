use Rattle.lay_shape.specs.KeptShapes.KeptBoxes.{AreBoxFlagsTo}
use Rattle.lay_shape.proofs.kept_shapes.kept_boxes.changed_flags.Given as goal

abbrev pub invariant-loop-i : goal.invariant-loop-i
invariant-loop-i l = AreBoxFlagsTo l.before l.after l.flags.items l.i
