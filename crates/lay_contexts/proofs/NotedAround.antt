-- Each context but the root's is noted in the one around it: no two stand at one box, since the nodes of a document differ.
use Rattle.std.proofs.Common.{◌≡◌, ◌<◌, ◌≤◌, ◌==◌, ◌&&◌, ℕ, zero, suc, false, List, length, slice_index, ap, sym, ◌∙◌, arith, inl, inr}
use Rattle.std.proofs.lemmas.Bool.{cases_eq, cases_lt}
use Rattle.lay_style.specs.declared.style.Style.{Style}
use Rattle.lay_doc.specs.Document.{Document, IsDocument}
use Rattle.lay_box_tree.specs.BoxColumns.{box_ids}
use Rattle.lay_box_tree.specs.declared.box_tree.BoxNode.{BoxNode}
use Rattle.lay_box_tree.specs.ContextBoxes.{is_inner}
use Rattle.lay_contexts.specs.ContextTree.{boxes_of_place}
use Rattle.lay_contexts.specs.DocumentContexts.{AreDocumentContexts, spot_at}
use Rattle.lay_contexts.specs.declared.context_spot.ContextSpot.{ContextSpot}
use Rattle.lay_contexts.specs.Contexts.{Context, boxes_in, context_at}
use Rattle.lay_contexts.specs.ContextList.{AreNumberedTo, boxes_of_spots, number_before}
use Rattle.lay_contexts.specs.Laws.{ContextsAreNotedAround, IsNotedAround}
use Rattle.lay_contexts.proofs.ContextNumbers.{both, not_first, not_second, number_found, number_passed}
use Rattle.lay_contexts.proofs.ListedSteps.{context_within}
use Rattle.lay_contexts.proofs.SpotOrder.{are_in_order, boxes_there}

not_both : (a b x y : ℕ) → (a ≡ x → b ≡ y → ⊥) → (a == x && b == y) ≡ false
not_both a b x y never = elim (cases_eq a x) [
  | inl e ↦ elim (cases_eq b y) [
    | inl f ↦ absurd (never e f)
    | inr other ↦ not_second a b x y other
  ]
  | inr other ↦ not_first a b x y other
]

module _ (d : Document) (styles : List Style) (doc : IsDocument d) (same : length styles ≡ length d.nodes) (spots : List ContextSpot) (are : AreDocumentContexts d.nodes styles spots) where
  -- the id of the node whose box stands there
  abbrev id_there : ℕ → ℕ → ℕ
  id_there around at = slice_index (box_ids (boxes_of_place d.nodes styles (spot_at spots around).place)) at

  -- no two contexts stand at one box
  apart : (i j : ℕ) → 0 < i → i < j → j < length spots → (spot_at spots j).around ≡ (spot_at spots i).around → (spot_at spots j).at ≡ (spot_at spots i).at → ⊥
  apart i j some less lt around at =
      let s : ContextSpot = spot_at spots i in
      let t : ContextSpot = spot_at spots j in
      let first = (are.stands i some (omega (arith, less, lt))).node in
      let second = (are.stands j (omega (arith, some, less)) lt).node in
      let there : id_there s.around s.at ≡ id_there t.around t.at = ap (λ (a : ℕ). id_there a s.at) (sym around) ∙ ap (id_there t.around) (sym at) in
      doc.ids s.place t.place (are.rising i j less lt) (context_within d.nodes styles t.place (are.are j lt)) (sym first ∙ there ∙ second)

  -- so the number that is found at the box of a context is its own
  number_from : (j n : ℕ) → 0 < j → j < n → n ≤ length spots → number_before spots n (spot_at spots j).around (spot_at spots j).at ≡ j
  number_from j zero some lt le = absurd (omega (arith, lt))
  number_from j (suc n) some lt le = elim (cases_lt j n) [
    | inl low ↦ number_passed spots n (spot_at spots j).around (spot_at spots j).at
        (not_both (spot_at spots n).around (spot_at spots n).at (spot_at spots j).around (spot_at spots j).at (λ e f. apart j n some low (omega (arith, le)) e f)) ∙ number_from j n some low (omega (arith, le))
    | inr high ↦ (let q : n ≡ j = omega (arith, high, lt) in
        number_found spots n (spot_at spots j).around (spot_at spots j).at
        (both (spot_at spots n).around (spot_at spots n).at (spot_at spots j).around (spot_at spots j).at (ap (λ (m : ℕ). (spot_at spots m).around) q) (ap (λ (m : ℕ). (spot_at spots m).at) q)) ∙ q)
  ]

  noted : (contexts : List Context) (j : ℕ) → AreNumberedTo spots (boxes_of_spots d.nodes styles spots) contexts (length spots) → 0 < j → j < length contexts → IsNotedAround contexts j
  noted contexts j numbered some lt =
      let s : ContextSpot = spot_at spots j in
      let there : j < length spots = omega (arith, lt, numbered.count) in
      let order = are_in_order d styles doc same spots are in
      let spot = (numbered.each j lt).spot in
      let outer : (context_at contexts j).outer ≡ s.around = ap (λ (s : ContextSpot). s.around) spot in
      let outer_box : (context_at contexts j).outer_box ≡ s.at = ap (λ (s : ContextSpot). s.at) spot in
      let before = order.around j some there in
      let around = numbered.each s.around (omega (arith, before, lt)) in
      let boxes = around.boxes_are in
      let within : s.at < length (context_at contexts s.around).boxes = rw boxes (order.within j some there) in
      let here : boxes_in contexts s.around ≡ boxes_of_place d.nodes styles (spot_at spots s.around).place = boxes ∙ boxes_there d styles doc same spots s.around (are.within j some there) in
      record {
        number = ap (λ (o : ℕ). slice_index (context_at contexts o).inner (context_at contexts j).outer_box) outer
            ∙ ap (slice_index (context_at contexts s.around).inner) outer_box ∙ around.inner s.at within ∙ number_from j (length spots) some there (omega arith);
        inner = ap (λ (o : ℕ). is_inner (boxes_in contexts o) (context_at contexts j).outer_box) outer
            ∙ ap (is_inner (boxes_in contexts s.around)) outer_box ∙ ap (λ (bs : List BoxNode). is_inner bs s.at) here ∙ (are.stands j some there).inner;
      }

pub contexts_are_noted : ContextsAreNotedAround
contexts_are_noted d styles contexts j doc same of some lt = noted d styles doc same of.spots of.are contexts j of.numbered some lt
