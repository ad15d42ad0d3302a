-- A context that isn't reached keeps its boxes.
use Rattle.std.proofs.Common.{◌≡◌, ◌⊎◌, inl, inr, ℕ, ◌<◌, ◌≤◌, List, length, refl, sym, subst}
use Rattle.lay_style.specs.declared.style.Style.{Style}
use Rattle.lay_doc.specs.declared.node.Node.{Node}
use Rattle.lay_doc.specs.Document.{Document, IsDocument, parents_of}
use Rattle.lay_doc.specs.Tree.{IsUnder, child, end_of, itself}
use Rattle.lay_boxgen.specs.Contexts.{IsContextAt}
use Rattle.lay_contexts.specs.ContextTree.{IsAround, boxes_of_place, further, parent, parent_of}
use Rattle.lay_after_edits.proofs.Cited.{context_within}
use Rattle.lay_after_edits.specs.Contexts.Reach.{AreAlike}
use Rattle.lay_after_edits.proofs.ContextsLemmas.AlikeBoxes.{AlikeNode}
use Rattle.lay_after_edits.proofs.ContextsLemmas.Restyling.{Restyling, not-under, same-boxes}
use Rattle.lay_after_edits.proofs.ContextsLemmas.SameBoxes.{boxes-stay}

split-under : (ns : List Node) (p k : ℕ) → IsUnder (parents_of ns) p k → (p ≡ k) ⊎ IsUnder (parents_of ns) p (parent_of ns k)
split-under ns p _ itself = inl refl
split-under ns p _ (child k positive u) = inr u

-- a context around a node below another one is below it too, or around it
pub outward : (ns : List Node) (ss : List Style) (p k a : ℕ) → IsAround ns ss k a → IsUnder (parents_of ns) p k → (IsUnder (parents_of ns) p a → ⊥) → IsAround ns ss p a
outward ns ss p _ _ (parent k positive e) u apart = elim (split-under ns p k u) [
  | inl is ↦ subst (λ (j : ℕ). IsAround ns ss j (parent_of ns k)) (sym is) (parent k positive e)
  | inr above ↦ absurd (apart above)
]
outward ns ss p _ _ (further k a positive e around) u apart = elim (split-under ns p k u) [
  | inl is ↦ subst (λ (j : ℕ). IsAround ns ss j a) (sym is) (further k a positive e around)
  | inr above ↦ outward ns ss p (parent_of ns k) a around above apart
]

module _ (d e : Document) (ss ts : List Style) (p until : ℕ) (doc : IsDocument d) (other_doc : IsDocument e) (count : length ss ≡ length d.nodes) (other_count : length ts ≡ length e.nodes)
    (has : p < length d.nodes) (r : Restyling d e ss ts p) (subject : AlikeNode d.nodes e.nodes p) (end : until ≡ end_of (parents_of d.nodes) p) (alike : AreAlike ss ts p until) where
  pub kept-boxes : (a : ℕ) → IsContextAt d.nodes ss a → ((p ≤ a) × (a < until) → ⊥) → (IsAround d.nodes ss p a → ⊥) → boxes_of_place e.nodes ts a ≡ boxes_of_place d.nodes ss a
  kept-boxes a context apart alone =
      let lt = context_within d.nodes ss a context in
      let free : IsUnder (parents_of d.nodes) p a → ⊥ = not-under d e ss ts p until doc has r subject end alike a lt apart in
      boxes-stay d e ss ts doc other_doc count other_count (same-boxes d e ss ts p until doc has r subject end alike) a lt context
      (λ k in_nodes around. record {
        content = r.content k in_nodes (λ is. alone (subst (λ (j : ℕ). IsAround d.nodes ss j a) is around));
        style = r.outside k in_nodes (λ u. alone (outward d.nodes ss p k a around u free));
      })
      (record {
        content = r.content a lt (λ is. free (subst (IsUnder (parents_of d.nodes) p) (sym is) itself));
        style = r.outside a lt free;
      })
