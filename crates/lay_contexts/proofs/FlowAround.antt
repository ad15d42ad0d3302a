-- What stands for the box of a context in the one around it has its flow, and anonymous boxes are in flow.
use Rattle.std.proofs.Common.{◌≡◌, ◌<◌, ℕ, zero, suc, true, false, List, [], ◌∷◌, length, slice_index, slice_index_or, refl, ap, sym, ◌∙◌, arith, inl, inr, Option, None, Some}
use Rattle.std.proofs.lemmas.Bool.{cases_lt}
use Rattle.lay_style.specs.declared.style.Style.{Style}
use Rattle.lay_style.specs.InitialStyle.{initial_style}
use Rattle.lay_doc.specs.Document.{Document, IsDocument, ids_of}
use Rattle.lay_box_tree.specs.BoxColumns.{box_ids}
use Rattle.lay_boxgen.specs.Contexts.{IsContextAt, box_at}
use Rattle.lay_boxgen.specs.Forms.{is_absolute}
use Rattle.lay_box_tree.specs.declared.box_tree.BoxKind.TheVariants.{Block}
use Rattle.lay_box_tree.specs.declared.box_tree.BoxNode.{BoxNode}
use Rattle.lay_boxgen.specs.declared.facts.Facts.{Facts}
use Rattle.lay_box_tree.specs.declared.box_tree.Flow.TheVariants.{InFlow}
use Rattle.lay_contexts.specs.FlowLaws.{flow_at, is_anchor, is_anchor_at}
use Rattle.lay_contexts.proofs.AnonymousFlows.{anonymous_flows}
use Rattle.lay_contexts.proofs.InnerFlows.{inner_flows}
use Rattle.lay_contexts.proofs.OwnFlows.{own_flows}
use Rattle.lay_box_tree.specs.Containing.{is_anonymous}
use Rattle.lay_box_tree.specs.ContextBoxes.{is_inner}
use Rattle.lay_contexts.specs.ContextTree.{StandsIn, boxes_of_place}
use Rattle.lay_contexts.specs.DocumentContexts.{AreDocumentContexts, spot_at}
use Rattle.lay_contexts.specs.declared.context_spot.ContextSpot.{ContextSpot}
use Rattle.lay_contexts.specs.Contexts.{Context, boxes_in, context_at}
use Rattle.lay_contexts.specs.ContextList.{AreNumberedTo, boxes_of_spots}
use Rattle.lay_contexts.specs.Laws.{AnonymousBoxesAreInFlow, ContextsKeepFlowAround, KeepsFlowAround}
use Rattle.lay_contexts.proofs.ListedSteps.{context_within}
use Rattle.lay_contexts.proofs.SpotOrder.{boxes_there, has_box}

abbrev no_box : BoxNode
no_box = record { node = record { 0 = 0 }; parent = 0; kind = Block; flow = InFlow; anonymous = false; inner = false; style = initial_style }

abbrev read : List BoxNode → ℕ → BoxNode
read boxes k = slice_index_or boxes k no_box

flow_read : (boxes : List BoxNode) (k : ℕ) → flow_at boxes k ≡ (read boxes k).flow
flow_read [] k = refl
flow_read (b ∷ bs) zero = refl
flow_read (b ∷ bs) (suc k) = flow_read bs k

anchor_read : (boxes : List BoxNode) (k : ℕ) → is_anchor_at boxes k ≡ is_anchor (read boxes k).kind
anchor_read [] k = refl
anchor_read (b ∷ bs) zero = refl
anchor_read (b ∷ bs) (suc k) = anchor_read bs k

inner_read : (boxes : List BoxNode) (k : ℕ) → is_inner boxes k ≡ (read boxes k).inner
inner_read [] k = refl
inner_read (b ∷ bs) zero = refl
inner_read (b ∷ bs) (suc k) = inner_read bs k

anonymous_read : (boxes : List BoxNode) (k : ℕ) → is_anonymous boxes k ≡ (read boxes k).anonymous
anonymous_read [] k = refl
anonymous_read (b ∷ bs) zero = refl
anonymous_read (b ∷ bs) (suc k) = anonymous_read bs k

id_read : (boxes : List BoxNode) (k : ℕ) → k < length boxes → slice_index (box_ids boxes) k ≡ (read boxes k).node.0
id_read [] k lt = absurd (omega (arith, lt))
id_read (b ∷ bs) zero lt = refl
id_read (b ∷ bs) (suc k) lt = id_read bs k (omega (arith, lt))

anonymous_there : (boxes : List BoxNode) (k : ℕ) → is_anonymous boxes k ≡ true → k < length boxes
anonymous_there [] k e = absurd cc
anonymous_there (b ∷ bs) zero e = omega arith
anonymous_there (b ∷ bs) (suc k) e = (let lt = anonymous_there bs k e in omega (arith, lt))

module _ (d : Document) (styles : List Style) (doc : IsDocument d) (same : length styles ≡ length d.nodes) where
  -- the place of an id is the only one that has it
  one_place : (j k : ℕ) → j < length d.nodes → k < length d.nodes → slice_index (ids_of d.nodes) j ≡ slice_index (ids_of d.nodes) k → j ≡ k
  one_place j k before within e = elim (cases_lt j k) [
    | inl low ↦ absurd (doc.ids j k low within e)
    | inr high ↦ elim (cases_lt k j) [
      | inl over ↦ absurd (doc.ids k j over before (sym e))
      | inr under ↦ omega (arith, high, under)
    ]
  ]

  one_box : (f g : Facts) → Some f ≡ Some g → f ≡ g
  one_box f g e = ap unwrap e
    where
      unwrap : Option Facts → Facts
      unwrap None = f
      unwrap (Some x) = x

  -- the box of a context, and what stands for it in another
  record Keeps (k a at : ℕ) : Type 0 where
    flow : flow_at (boxes_of_place d.nodes styles a) at ≡ flow_at (boxes_of_place d.nodes styles k) 0
    anchor : is_anchor_at (boxes_of_place d.nodes styles a) at ≡ is_absolute (flow_at (boxes_of_place d.nodes styles k) 0)

  keeps : (k a at : ℕ) → IsContextAt d.nodes styles k → StandsIn d.nodes styles k a at → Keeps k a at
  keeps k a at context stands =
      let boxes : List BoxNode = boxes_of_place d.nodes styles a in
      let own = has_box d styles doc same (box_at d.nodes styles k) context.establishes in
      let mine = own_flows d styles k own.0 doc same context own.1 in
      let marked : (read boxes at).inner ≡ true = sym (inner_read boxes at) ∙ stands.inner in
      let s = inner_flows d styles a doc same at no_box stands.within marked in
      let id = s.node ∙ sym (id_read boxes at stands.within) ∙ stands.node in
      let place : s.place ≡ k = one_place s.place k s.within (context_within d.nodes styles k context) id in
      let there : box_at d.nodes styles k ≡ Some s.box = ap (box_at d.nodes styles) (sym place) ∙ s.there in
      let box : s.box ≡ own.0 = one_box s.box own.0 (sym there ∙ own.1) in
      let flow : s.box.flow ≡ flow_at (boxes_of_place d.nodes styles k) 0 = ap (λ (f : Facts). f.flow) box ∙ sym mine in
      record {
        flow = flow_read boxes at ∙ s.flow ∙ flow;
        anchor = anchor_read boxes at ∙ s.anchor ∙ ap is_absolute flow;
      }

  module _ (spots : List ContextSpot) (are : AreDocumentContexts d.nodes styles spots) (contexts : List Context)
      (numbered : AreNumberedTo spots (boxes_of_spots d.nodes styles spots) contexts (length spots)) where
    boxes_are : (i : ℕ) → i < length contexts → boxes_in contexts i ≡ boxes_of_place d.nodes styles (spot_at spots i).place
    boxes_are i lt = (numbered.each i lt).boxes_are ∙ boxes_there d styles doc same spots i (omega (arith, lt, numbered.count))

    keeps_around : (j : ℕ) → 0 < j → j < length contexts → KeepsFlowAround contexts j
    keeps_around j some lt =
        let s : ContextSpot = spot_at spots j in
        let there : j < length spots = omega (arith, lt, numbered.count) in
        let spot = (numbered.each j lt).spot in
        let outer : (context_at contexts j).outer ≡ s.around = ap (λ (s : ContextSpot). s.around) spot in
        let outer_box : (context_at contexts j).outer_box ≡ s.at = ap (λ (s : ContextSpot). s.at) spot in
        let within = are.within j some there in
        let around : boxes_in contexts (context_at contexts j).outer ≡ boxes_of_place d.nodes styles (spot_at spots s.around).place =
        ap (boxes_in contexts) outer ∙ boxes_are s.around (omega (arith, within, numbered.count)) in
        let own = boxes_are j lt in
        let k = keeps s.place (spot_at spots s.around).place s.at (are.are j there) (are.stands j some there) in
        record {
          flow = ap (λ (bs : List BoxNode). flow_at bs (context_at contexts j).outer_box) around
              ∙ ap (flow_at (boxes_of_place d.nodes styles (spot_at spots s.around).place)) outer_box ∙ k.flow
              ∙ ap (λ (bs : List BoxNode). flow_at bs 0) (sym own);
          anchor = ap (λ (bs : List BoxNode). is_anchor_at bs (context_at contexts j).outer_box) around
              ∙ ap (is_anchor_at (boxes_of_place d.nodes styles (spot_at spots s.around).place)) outer_box ∙ k.anchor
              ∙ ap (λ (bs : List BoxNode). is_absolute (flow_at bs 0)) (sym own);
        }

    in_flow : (i k : ℕ) → i < length contexts → is_anonymous (boxes_in contexts i) k ≡ true → flow_at (boxes_in contexts i) k ≡ InFlow
    in_flow i k lt anonymous =
        let boxes : List BoxNode = boxes_of_place d.nodes styles (spot_at spots i).place in
        let own = boxes_are i lt in
        let marked : is_anonymous boxes k ≡ true = ap (λ (bs : List BoxNode). is_anonymous bs k) (sym own) ∙ anonymous in
        ap (λ (bs : List BoxNode). flow_at bs k) own ∙ flow_read boxes k
        ∙ anonymous_flows d styles (spot_at spots i).place doc same k no_box (anonymous_there boxes k marked) (sym (anonymous_read boxes k) ∙ marked)

pub contexts_keep_flow : ContextsKeepFlowAround
contexts_keep_flow d styles contexts j doc same of some lt = keeps_around d styles doc same of.spots of.are contexts of.numbered j some lt

pub anonymous_in_flow : AnonymousBoxesAreInFlow
anonymous_in_flow d styles contexts i k doc same of lt anonymous = in_flow d styles doc same of.spots of.are contexts of.numbered i k lt anonymous
