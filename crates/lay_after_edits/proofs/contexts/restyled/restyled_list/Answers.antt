use Rattle.std.proofs.Common.{◌≡◌, ◌<◌, ◌+◌, ◌++◌, ◌∷◌, [], ℕ, Bool, List, false, arith, length, slice_index, subst, sym}
use Rattle.lay_style.specs.declared.style.Style.{Style}
use Rattle.lay_style.specs.ComputedStyle.{style_at}
use Rattle.lay_doc.specs.Document.{declarations_of, parents_of}
use Rattle.lay_after_edits.proofs.Cited.{all_known, length-parents}
use Rattle.lay_inherit.specs.StylesTo.{StylesTo}
use Rattle.lay_after_edits.specs.Contexts.Changed.{IsStyleOf, KeepsUnmade}
use Rattle.lay_after_edits.specs.Contexts.Links.{is_made}
use Rattle.lay_after_edits.proofs.ContextsLemmas.KeptStyles.{kept-style, one-kept}
use Rattle.lay_after_edits.proofs.contexts.restyled.restyled_list.Goals as goal

pub push_styled-requires-clause-kept : goal.push_styled-requires-clause-kept
push_styled-requires-clause-kept c = λ is_not.
    (let nodes = c.args.nodes.now in
    let known = c.loop-k.invariant in
    let within : c.loop-k.k < length (parents_of nodes) = omega (arith, c.loop-k-test.true, length-parents nodes) in
    subst (λ (m : ℕ). IsStyleOf (parents_of nodes) (declarations_of nodes) c.loop-k.styles.items (style_at c.args.was.now m) m) (sym known.styles.length_is)
    (kept-style (parents_of nodes) (declarations_of nodes) c.requires.tree c.args.was.now c.args.changed.now c.requires.stays c.loop-k.styles.items c.loop-k.made.items c.loop-k.k
    within known.keeps (c.is_made_anew-is_made.ensures.changed is_not)
    (λ positive. subst (λ (made : List Bool). is_made made (slice_index (parents_of nodes) c.loop-k.k) ≡ false) c.deref.ensures.value (c.is_made_anew-is_made.ensures.above is_not positive))))

pub loop-k-preserved : goal.loop-k-preserved
loop-k-preserved c =
    let nodes = c.args.nodes.now in
    let known = c.loop-k.invariant in
    let k = c.loop-k.k in
    let b = c.is_made_anew-is_made.result in
    let later = c.push_styled.new.styles.items in
    let within : k < length (parents_of nodes) = omega (arith, c.loop-k-test.true, length-parents nodes) in
    let count : length c.loop-k.styles.items ≡ k = known.styles.length_is in
    let added = c.in_ok-push_styled.ensures {u = tt} in
    let up : StylesTo (parents_of nodes) (declarations_of nodes) later (k + 1) =
    subst (λ (m : ℕ). StylesTo (parents_of nodes) (declarations_of nodes) later (m + 1)) count added.styles in
    let last : b ≡ false → style_at later k ≡ style_at c.args.was.now k =
    λ is_not. subst (λ (m : ℕ). style_at later m ≡ style_at c.args.was.now m) count (added.kept is_not) in
    let pushed : c.push.new.self.items ≡ c.loop-k.made.items ++ b ∷ [] = (c.in_ok-push.ensures {u = tt}).items in
    record {
      styles = up;
      keeps = subst (λ (made : List Bool). KeepsUnmade c.args.was.now later c.args.changed.now made (k + 1)) (sym pushed)
          (one-kept (parents_of nodes) (declarations_of nodes) c.requires.tree c.args.was.now c.args.changed.now c.requires.stays c.loop-k.styles.items later c.loop-k.made.items k b
          within known.styles up known.keeps c.is_made_anew-is_made.ensures.changed last);
    }

pub returns-clause-styles : goal.returns-clause-styles
returns-clause-styles c =
    let nodes = c.args.nodes.now in
    let all : c.loop-k.k ≡ length (parents_of nodes) = omega (arith, length-parents nodes, c.loop-k-test.false, c.loop-k.auto.k-end) in
    rw c.new.ensures (all_known (parents_of nodes) (declarations_of nodes) c.loop-k.styles.items c.loop-k.k all c.loop-k.invariant.styles)

pub returns-clause-kept : goal.returns-clause-kept
returns-clause-kept c =
    let all : c.loop-k.k ≡ length c.args.nodes.now = omega (arith, c.loop-k-test.false, c.loop-k.auto.k-end) in
    subst (λ (m : ℕ). KeepsUnmade c.args.was.now c.new.result c.args.changed.now c.loop-k.made.items m) all
    (subst (λ (styles : List Style). KeepsUnmade c.args.was.now styles c.args.changed.now c.loop-k.made.items c.loop-k.k) (sym c.new.ensures) c.loop-k.invariant.keeps)
