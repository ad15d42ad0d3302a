use Rattle.std.proofs.Common.{◌≡◌, ◌++◌, List, ◌+◌, sym, subst, refl}
use Rattle.lay_shape.specs.declared.cell_key.CellKey.{CellKey}
use Rattle.lay_shape.specs.Touched.TouchedKeys.{AreTouchedKeysTo, keys_of}
use Rattle.lay_shape.proofs.KeptShapesLemmas.TouchedSteps.{next_touched, next_untouched}
use Rattle.lay_shape.proofs.kept_shapes.touched_keys.push_if_touched.Goals as goal

pub returns-then-is_untouched : goal.returns-then-is_untouched
returns-then-is_untouched c =
    next_untouched c.args.before.now.contexts.now c.args.after.now.contexts.now c.args.before.now.formatting_contexts.now c.args.after.now.formatting_contexts.now
    c.args.keys.now.items c.args.j c.requires.known (c.if-is_untouched.ensures.0 refl)

pub returns : goal.returns
returns c =
    let pushed : c.push_keys.new.keys.items ≡ c.args.keys.now.items ++ keys_of c.args.after.now.contexts.now c.args.j = c.in_ok-push_keys.ensures {u = tt} in
    subst (λ (l : List CellKey). AreTouchedKeysTo c.args.before.now.contexts.now c.args.after.now.contexts.now c.args.before.now.formatting_contexts.now
    c.args.after.now.formatting_contexts.now l (c.args.j + 1))
    (sym pushed)
    (next_touched c.args.before.now.contexts.now c.args.after.now.contexts.now c.args.before.now.formatting_contexts.now c.args.after.now.formatting_contexts.now
    c.args.keys.now.items c.args.j c.requires.known (λ u. (let no = c.if-is_untouched.ensures.1 u in cc)))
