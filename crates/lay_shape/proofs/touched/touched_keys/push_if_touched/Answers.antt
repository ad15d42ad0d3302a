use Rattle.std.proofs.Common.{◌≡◌, ◌++◌, List, ◌+◌, sym, subst, ◌∙◌, ap, refl}
use Rattle.lay_contexts.specs.Contexts.{Context}
use Rattle.lay_shape.specs.declared.cell_key.CellKey.{CellKey}
use Rattle.lay_shape.specs.Touched.TouchedKeys.{AreTouchedKeysTo, keys_of}
use Rattle.lay_shape.proofs.TouchedLemmas.TouchedSteps.{next_touched, next_untouched}
use Rattle.lay_shape.proofs.touched.touched_keys.push_if_touched.Goals as goal

pub returns-then-is_untouched : goal.returns-then-is_untouched
returns-then-is_untouched c =
    next_untouched c.args.before.now.contexts c.args.after.now.contexts c.args.before.now.formatting_contexts c.args.after.now.formatting_contexts
    c.args.keys.now.items c.args.j c.requires.known (c.if-is_untouched.ensures.0 refl)

pub returns : goal.returns
returns c =
    let pushed : c.push_keys.new.keys.items ≡ c.args.keys.now.items ++ keys_of c.args.after.now.contexts c.args.j =
    c.in_ok-push_keys.ensures {u = tt} ∙ ap (λ (l : List Context). c.args.keys.now.items ++ keys_of l c.args.j) c.contexts.ensures in
    subst (λ (l : List CellKey). AreTouchedKeysTo c.args.before.now.contexts c.args.after.now.contexts c.args.before.now.formatting_contexts c.args.after.now.formatting_contexts l (c.args.j + 1))
    (sym pushed)
    (next_touched c.args.before.now.contexts c.args.after.now.contexts c.args.before.now.formatting_contexts c.args.after.now.formatting_contexts
    c.args.keys.now.items c.args.j c.requires.known (λ u. (let no = c.if-is_untouched.ensures.1 u in cc)))
