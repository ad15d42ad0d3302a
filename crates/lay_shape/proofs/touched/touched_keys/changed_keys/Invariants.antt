use Rattle.lay_shape.specs.Touched.TouchedKeys.{AreTouchedKeysTo}
use Rattle.lay_shape.proofs.touched.touched_keys.changed_keys.Given as goal

abbrev pub invariant-loop-j : goal.invariant-loop-j
invariant-loop-j l = AreTouchedKeysTo l.before.contexts l.after.contexts l.before.formatting_contexts l.after.formatting_contexts l.keys.items l.j
