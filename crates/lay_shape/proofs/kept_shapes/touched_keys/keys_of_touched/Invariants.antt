use Rattle.lay_shape.specs.Touched.TouchedKeys.{AreTouchedKeysTo}
use Rattle.lay_shape.proofs.kept_shapes.touched_keys.keys_of_touched.Given as goal

abbrev pub invariant-loop-j : goal.invariant-loop-j
invariant-loop-j l = AreTouchedKeysTo l.before.contexts.now l.after.contexts.now l.before.formatting_contexts.now l.after.formatting_contexts.now l.keys.items l.j
