use Rattle.lay_shape.proofs.KeptShapesLemmas.Untouched.{same-boxes, same-measured, untouched}
use Rattle.lay_shape.proofs.kept_shapes.touched_keys.is_untouched.Goals as goal

pub returns-then-not-same_flag : goal.returns-then-not-same_flag
returns-then-not-same_flag c = (
  λ t. absurd cc,
  λ u. (let e = same-measured c.args.before.now.contexts.now c.args.after.now.contexts.now c.args.before.now.formatting_contexts.now c.args.after.now.formatting_contexts.now
      c.args.made.now c.args.before.now.measured.now c.args.after.now.measured.now c.requires.kept c.requires.apart c.requires.flags c.requires.later_flags c.args.j c.requires.within u in
      let no = c.same_flag.ensures.1 e in cc),
)

pub returns : goal.returns
returns c = (
  λ t. untouched c.args.before.now.contexts.now c.args.after.now.contexts.now c.args.before.now.formatting_contexts.now c.args.after.now.formatting_contexts.now
      c.args.made.now c.args.before.now.measured.now c.args.after.now.measured.now c.requires.kept c.requires.apart c.requires.flags c.requires.later_flags c.args.j c.requires.within
      (c.same_flag.ensures.0 c.if-not-same_flag.false) (c.same_context.ensures.0 t),
  λ u. c.same_context.ensures.1
      (same-boxes c.args.before.now.contexts.now c.args.after.now.contexts.now c.args.before.now.formatting_contexts.now c.args.after.now.formatting_contexts.now
      c.args.made.now c.args.before.now.measured.now c.args.after.now.measured.now c.requires.kept c.requires.apart c.requires.flags c.requires.later_flags c.args.j c.requires.within u),
)
