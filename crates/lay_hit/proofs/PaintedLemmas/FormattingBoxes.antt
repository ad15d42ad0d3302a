-- The boxes of the formatting contexts of a document are those of its contexts, and so of its nodes.
use Rattle.std.proofs.Common.{◌≡◌, ℕ, zero, suc, ◌+◌, ◌<◌, ◌≤◌, All, List, [], length, slice_index_or, sym, ap, subst, ◌∙◌, arith}
use Rattle.std.specs.List.{range_with_len}
use Rattle.lay_style.specs.declared.style.Style.{Style}
use Rattle.lay_doc.specs.Document.{Document, IsDocument}
use Rattle.lay_box_tree.specs.declared.box_tree.BoxNode.{BoxNode}
use Rattle.lay_box_tree.specs.BoxColumns.{box_at}
use Rattle.lay_contexts.specs.declared.context_spot.ContextSpot.{ContextSpot}
use Rattle.lay_contexts.specs.ContextList.{AreContextsOf, boxes_of_spots}
use Rattle.lay_contexts.specs.ContextTree.{boxes_of_place}
use Rattle.lay_contexts.specs.Contexts.{Context, boxes_in}
use Rattle.lay_contexts.specs.FormattingBoxes.{as_member, as_own, at_home_before, boxes_of_root, is_at_home}
use Rattle.lay_contexts.specs.FormattingContextList.{AreFormattingContextsOf, formatting_context_of, homes_in}
use Rattle.lay_contexts.specs.FormattingContexts.{FormattingContext, boxes_in as boxes_of, formatting_context_at}
use Rattle.lay_hit.proofs.Cited.{numbered}
use Rattle.lay_hit.proofs.PaintedLemmas.Each.{Each, each-filter, each-map, each-or, each-all, each-weaker}
use Rattle.lay_hit.proofs.PaintedLemmas.NodeBoxes.{IsBoxOf, context-boxes}

-- what is counted is below the count
counted : (from n most : ℕ) → from + n ≤ most → Each (λ k. k < most) (range_with_len from n)
counted from zero most le = tt
counted from (suc n) most le = (omega (arith, le), counted (from + 1) n most (omega (arith, le)))

module _ (d : Document) (styles : List Style) (doc : IsDocument d) (same : length styles ≡ length d.nodes) (contexts : List Context) (are : AreContextsOf d.nodes styles contexts) where
  abbrev AreOfNodes : List BoxNode → Type 0
  AreOfNodes bs = All (IsBoxOf d.nodes) bs

  none : AreOfNodes []
  none k b lt = absurd (omega (arith, lt))

  boxes-of-spots : (spots : List ContextSpot) (i : ℕ) → AreOfNodes (slice_index_or (boxes_of_spots d.nodes styles spots) i [])
  boxes-of-spots spots i =
      each-or AreOfNodes (boxes_of_spots d.nodes styles spots)
      (each-map AreOfNodes (λ (s : ContextSpot). boxes_of_place d.nodes styles s.place) spots
      (each-all (λ (s : ContextSpot). AreOfNodes (boxes_of_place d.nodes styles s.place)) (λ s. context-boxes d styles doc same s.place) spots))
      i [] none

  boxes-of-context : (i : ℕ) → i < length contexts → AreOfNodes (boxes_in contexts i)
  boxes-of-context i lt = subst AreOfNodes (sym (are.numbered.each i lt).boxes_are) (boxes-of-spots are.spots i)

  own-box : (b : BoxNode) → IsBoxOf d.nodes b → IsBoxOf d.nodes (as_own b)
  own-box b h = record { at = h.at; within = h.within; node = h.node; text = h.text }

  member : (boxes : List BoxNode) (homes : List ℕ) (k : ℕ) → IsBoxOf d.nodes (box_at boxes k) → IsBoxOf d.nodes (as_member boxes homes k)
  member boxes homes k h = record { at = h.at; within = h.within; node = h.node; text = h.text }

  boxes-of-a-root : (boxes : List BoxNode) (homes : List ℕ) (r : ℕ) → r < length boxes → AreOfNodes boxes → Each (IsBoxOf d.nodes) (boxes_of_root boxes homes r)
  boxes-of-a-root boxes homes r lt all = (
    own-box (box_at boxes r) (all r _ lt),
    each-map (IsBoxOf d.nodes) (as_member boxes homes) (at_home_before homes r (length boxes))
        (each-weaker (λ k. k < length boxes) (λ k. IsBoxOf d.nodes (as_member boxes homes k)) (λ k less. member boxes homes k (all k _ less)) (at_home_before homes r (length boxes))
        (each-filter (λ k. k < length boxes) (is_at_home homes r) (range_with_len 0 (length boxes)) (counted 0 (length boxes) (length boxes) (omega arith)))),
  )

  pub boxes-of-formatting-context : (all : List FormattingContext) → AreFormattingContextsOf contexts all → (j : ℕ) → j < length all → Each (IsBoxOf d.nodes) (boxes_of all j)
  boxes-of-formatting-context all of j lt =
      let n = numbered contexts (length contexts) j (omega (arith, lt, of.count)) in
      let i : ℕ = n.context in
      let is : formatting_context_at all j ≡ formatting_context_of contexts of.homes i n.place = ap (formatting_context_at all) (sym n.number) ∙ of.each i n.place n.before n.inside n.root in
      subst (λ (c : FormattingContext). Each (IsBoxOf d.nodes) c.boxes) (sym is)
      (boxes-of-a-root (boxes_in contexts i) (homes_in of.homes i) n.place n.inside (boxes-of-context i n.before))
