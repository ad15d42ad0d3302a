use Rattle.std.proofs.Common.{◌≡◌, ◌<◌, ◌∙◌, ℕ, List, length, false, refl, subst, rules}
use Rattle.lay_box_tree.specs.declared.box_tree.BoxNode.{BoxNode}
use Rattle.lay_box_tree.specs.InlineParts.{is_inline_at}
use Rattle.lay_abspos.proofs.RelativeLemmas.Nearest.{none_broken}
use Rattle.lay_abspos.proofs.relative.former_parent.former_parents.Goals as goal

pub returns-then-not-has_inline : goal.returns-then-not-has_inline
returns-then-not-has_inline c =
    let none = subst (λ (bs : List BoxNode). (k : ℕ) → k < length bs → is_inline_at bs k ≡ false) c.as_slice.ensures.boxes (c.if-not-has_inline.ensures refl) in
    none_broken c.args.tree.now c.in_ok-vec.field-0.items (c.in_ok-vec.ensures.items_if_clones_equal (λ y e. search rules) ∙ search rules) none
