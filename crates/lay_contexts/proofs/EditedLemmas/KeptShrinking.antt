-- For nodes that are kept, the boxes around that they are said to be in are kept too.
use Rattle.std.proofs.Common.{◌≡◌, ℕ, ◌<◌, ◌↔◌, Bool, List, length, refl, ap, sym, ◌∙◌, Option, None, Some, option_map}
use Rattle.lay_style.specs.declared.style.Style.{Style}
use Rattle.lay_style.specs.ComputedStyle.{style_at}
use Rattle.lay_doc.specs.declared.node.Node.{Node}
use Rattle.lay_doc.specs.Document.{Document}
use Rattle.lay_boxgen.specs.declared.facts.Facts.{Facts}
use Rattle.lay_box_tree.specs.declared.box_tree.BoxKind.{BoxKind}
use Rattle.lay_box_tree.specs.declared.box_tree.Flow.{Flow}
use Rattle.lay_boxgen.specs.Contexts.{IsContextAt, box_at}
use Rattle.lay_boxgen.specs.Listing.{kind_of, text_at, text_of}
use Rattle.lay_contexts.specs.ContextTree.{parent_of}
use Rattle.lay_contexts.specs.Edited.AnonymousTables.{IsInStrayPart, between, here, is_stray_part}
use Rattle.lay_contexts.specs.Edited.Shrinking.{IsWithin, around, own, table}
use Rattle.lay_contexts.specs.Edited.Unreached.{IsKeptAt}
use Rattle.lay_contexts.proofs.EditedLemmas.KeptContexts.{Keeping, Styled}
use Rattle.lay_contexts.proofs.EditedLemmas.KeptNodes.{kept-at, styled}
use Rattle.lay_contexts.proofs.EditedLemmas.SameTrees.{SameTree, at_place, back, same-around, same-box, same-context, same-mark, turned}

stray-moved : (p m : ℕ) (a b : Option Facts) → is_stray_part (option_map (at_place p) a) (option_map (at_place m) b) ≡ is_stray_part a b
stray-moved p m None None = refl
stray-moved p m None (Some g) = refl
stray-moved p m (Some f) None = refl
stray-moved p m (Some f) (Some g) = refl

module _ (ns ms : List Node) (ss ts : List Style) (R : ℕ → ℕ → Type 0) (h : SameTree ns ms R) (alike : (k m : ℕ) → R k m → style_at ss k ≡ style_at ts m) where
  stray-same : (k m : ℕ) → R k m → 0 < k → is_stray_part (box_at ms ts (parent_of ms m)) (box_at ms ts m) ≡ is_stray_part (box_at ns ss (parent_of ns k)) (box_at ns ss k)
  stray-same k m r positive =
      let up = (h.parent k m r positive).1 in
      ap (λ (o : Option Facts). is_stray_part o (box_at ms ts m)) (same-box ns ms ss ts R h alike (parent_of ns k) (parent_of ms m) up)
      ∙ (ap (is_stray_part (option_map (at_place (parent_of ms m)) (box_at ns ss (parent_of ns k)))) (same-box ns ms ss ts R h alike k m r)
      ∙ stray-moved (parent_of ms m) m (box_at ns ss (parent_of ns k)) (box_at ns ss k))

  stray-kept : (k : ℕ) → IsInStrayPart ns ss k → (m : ℕ) → R k m → IsInStrayPart ms ts m
  stray-kept _ (here k positive e) m r = here m (h.parent k m r positive).0 (stray-same k m r positive ∙ e)
  stray-kept _ (between k positive e w) m r =
      let up = h.parent k m r positive in
      between m up.0 (same-mark ns ms ss ts R h alike (parent_of ns k) (parent_of ms m) up.1 ∙ e) (stray-kept (parent_of ns k) w (parent_of ms m) up.1)

  text-same : (k m : ℕ) → R k m → text_at ns k ≡ text_at ms m
  text-same k m r = let s = h.node k m r in ap text_of s.here ∙ (s.text ∙ sym (ap text_of s.there))

  pub within-kept : (S : Flow → BoxKind → Style → Bool) (k : ℕ) → IsWithin S ns ss k → (m : ℕ) → R k m → IsWithin S ms ts m
  within-kept S _ (own k f there e) m r =
      own m (at_place m f) (same-box ns ms ss ts R h alike k m r ∙ ap (option_map (at_place m)) there)
      (ap (λ (t : List ℕ). S f.flow (kind_of t f.form) (style_at ts m)) (sym (text-same k m r))
      ∙ (ap (S f.flow (kind_of (text_at ns k) f.form)) (sym (alike k m r)) ∙ e))
  within-kept S _ (table k w) m r = table m (stray-kept k w m r)
  within-kept S _ (around k a outside w) m r =
      let up = same-around ns ms ss ts R h alike k a outside m r in
      around m up.0 up.2 (within-kept S a w up.0 up.1)

module _ (d e : Document) (P Q : ℕ → Type 0) (R : ℕ → ℕ → Type 0) (keep : Keeping d e P Q R) (ss ts : List Style) (here_styled : Styled d ss) (elsewhere : Styled e ts) where
  alike : (k m : ℕ) → R k m → style_at ss k ≡ style_at ts m
  alike k m r = styled d e P Q R keep ss ts here_styled elsewhere k m r

  pub stays-within : (S : Flow → BoxKind → Style → Bool) (k : ℕ) → k < length d.nodes → (P k → ⊥) → (m : ℕ) × IsKeptAt d e ss ts k m × (IsWithin S d.nodes ss k ↔ IsWithin S e.nodes ts m)
  stays-within S k lt apart =
      let m : ℕ = keep.to k in
      let r = keep.forth k lt apart in (
        m,
        kept-at d e P Q R keep ss ts here_styled elsewhere k m r,
        (
          λ w. within-kept d.nodes e.nodes ss ts R keep.same alike S k w m r,
          λ w. within-kept e.nodes d.nodes ts ss (back R) (turned d.nodes e.nodes R keep.same) (λ n j q. sym (alike j n q)) S m w k r,
        ),
      )

  -- with the context of a node
  pub context-stays : (S : Flow → BoxKind → Style → Bool) (k : ℕ) → k < length d.nodes → (P k → ⊥) → IsContextAt d.nodes ss k
      → (m : ℕ) × IsKeptAt d e ss ts k m × IsContextAt e.nodes ts m × (IsWithin S d.nodes ss k ↔ IsWithin S e.nodes ts m)
  unfolding stays-within
  context-stays S k lt apart context =
      let w = stays-within S k lt apart in
      (w.0, w.1, same-context d.nodes e.nodes ss ts R keep.same alike k w.0 (keep.forth k lt apart) context, w.2)
