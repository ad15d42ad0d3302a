-- A context is untouched, or has a reached node among its own.
use Rattle.std.proofs.Common.{◌≡◌, inl, inr, ℕ, ◌<◌, Bool, true, List, length, refl, ap, sym, subst, ◌∙◌, arith, Some}
use Rattle.lay_style.specs.declared.style.Style.{Style}
use Rattle.lay_style.specs.Places.{place_of}
use Rattle.lay_doc.specs.declared.edit.Edit.{Edit}
use Rattle.lay_doc.specs.Document.{Document, ids_of}
use Rattle.lay_doc.specs.Edits.{after}
use Rattle.lay_contexts.proofs.Cited.{length-ids}
use Rattle.lay_box_tree.specs.declared.box_tree.BoxKind.{BoxKind}
use Rattle.lay_box_tree.specs.declared.box_tree.BoxNode.{BoxNode}
use Rattle.lay_box_tree.specs.declared.box_tree.Flow.{Flow}
use Rattle.lay_boxgen.specs.Contexts.{IsContext, IsContextAt, IsContextThere, box_at, is_marked}
use Rattle.lay_boxgen.specs.Listing.{boxes_at, boxes_of}
use Rattle.lay_contexts.specs.ContextTree.{boxes_of_place}
use Rattle.lay_contexts.specs.Contexts.{Context, boxes_in, context_at}
use Rattle.lay_contexts.specs.FormattingContexts.{FormattingContext}
use Rattle.lay_contexts.specs.Homes.{is_root}
use Rattle.lay_contexts.proofs.OneStand.{marked-true, within}
use Rattle.lay_contexts.proofs.SpotOrder.{boxes_there}
use Rattle.lay_contexts.specs.Edited.Bound.{AnchorsTouchNothingAround, EditsTouchNoOthers, IsBoundUntouched, root_id}
use Rattle.lay_contexts.specs.Edited.Reached.{IsReached}
use Rattle.lay_contexts.specs.Edited.Shrinking.{AreListsOf, TakesAnonymousTables}
use Rattle.lay_contexts.specs.Edited.Touched.{Edits, KeepsBoxes, element}
use Rattle.lay_contexts.proofs.EditedLemmas.EditedContexts.{edits_touch_reached_contexts}
use Rattle.lay_contexts.proofs.EditedLemmas.KeptContexts.{reached-known}
use Rattle.lay_contexts.proofs.EditedLemmas.NamedPlaces.{place-is}
use Rattle.lay_contexts.proofs.EditedLemmas.RestyledAnchors.{anchors_keep_contexts_around}
use Rattle.lay_contexts.proofs.EditedLemmas.StayingOutward.{place-there, roots_follow_their_context, unreached_contexts_stay_outward}

-- a context of a list by its place and its id
module _ (d : Document) (styles : List Style) (contexts : List Context) (all : List FormattingContext) (lists : AreListsOf d styles contexts all) (i : ℕ) (lt : i < length contexts) where
  abbrev p : ℕ
  p = (context_at contexts i).place

  in-spots : i < length lists.contexts_are.spots
  in-spots = omega (arith, lt, lists.contexts_are.numbered.count)

  context-is : IsContextAt d.nodes styles p
  context-is = subst (IsContextAt d.nodes styles) (sym (place-there d styles contexts lists.contexts_are i lt)) (lists.contexts_are.are.are i in-spots)

  p-in : p < length d.nodes
  p-in = within d.nodes styles p (marked-true (is_marked (box_at d.nodes styles p)) context-is.establishes)

  named : place_of (root_id d contexts i) (ids_of d.nodes) ≡ Some p
  named =
      place-is (root_id d contexts i) (ids_of d.nodes) (λ j k less in_ids. lists.document.ids j k less (omega (arith, in_ids, length-ids d.nodes)))
      p (omega (arith, p-in, length-ids d.nodes)) refl

  boxes-are : boxes_in contexts i ≡ boxes_of d styles (root_id d contexts i)
  boxes-are =
      (lists.contexts_are.numbered.each i lt).boxes_are
      ∙ (boxes_there d styles lists.document lists.count lists.contexts_are.spots i in-spots
      ∙ (ap (boxes_of_place d.nodes styles) (sym (place-there d styles contexts lists.contexts_are i lt)) ∙ sym (ap (boxes_at d.nodes styles) named)))

-- what keeps its boxes, and whose element isn't reached, is untouched
untouched : (S : Flow → BoxKind → Style → Bool) (d : Document) (edit : Edit) (styles others : List Style) (contexts later : List Context) (all rest : List FormattingContext)
    → TakesAnonymousTables S → Edits d edit styles others → (lists : AreListsOf d styles contexts all) → (later_lists : AreListsOf (after d edit) others later rest)
    → (i : ℕ) → (lt : i < length contexts) → (IsReached d edit (context_at contexts i).place → ⊥) → KeepsBoxes d (after d edit) styles others (root_id d contexts i)
    → (j : ℕ) × IsBoundUntouched S d (after d edit) contexts later all rest i j
untouched S d edit styles others contexts later all rest takes edits lists later_lists i lt apart kept =
    let o = unreached_contexts_stay_outward S d edit styles others contexts later all rest takes edits lists later_lists i lt apart in
    let j : ℕ = o.0 in
    let boxes : boxes_in contexts i ≡ boxes_in later j =
    boxes-are d styles contexts all lists i lt
    ∙ (kept.boxes ∙ (ap (boxes_of (after d edit) others) (sym o.1.node) ∙ sym (boxes-are (after d edit) others later rest later_lists j o.1.within))) in (
      j,
      record {
        within = o.1.within;
        element = o.1.node;
        boxes = boxes;
        roots = λ r inside root. (
          roots_follow_their_context S d (after d edit) styles others contexts later all rest lists later_lists i j lt o.1.within boxes o.1.same.0 r inside root,
          roots_follow_their_context S (after d edit) d others styles later contexts rest all later_lists lists j i o.1.within lt (sym boxes) o.1.same.1 r
              (subst (λ (bs : List BoxNode). r < length bs) boxes inside) (subst (λ (bs : List BoxNode). is_root bs r ≡ true) boxes root),
        );
      },
    )

pub edits_touch_no_others : EditsTouchNoOthers
edits_touch_no_others S d edit styles others contexts later all rest takes edits lists later_lists i lt =
    let is_context : IsContext d styles (root_id d contexts i) = subst (IsContextThere d.nodes styles) (sym (named d styles contexts all lists i lt)) (context-is d styles contexts all lists i lt) in
    elim (reached-known d edit edits.document (p d styles contexts all lists i lt) (p-in d styles contexts all lists i lt)) [
      | inl reached ↦ inr (inl (record {
        place = p d styles contexts all lists i lt;
        named = named d styles contexts all lists i lt;
        context = context-is d styles contexts all lists i lt;
        node = p d styles contexts all lists i lt;
        within = p-in d styles contexts all lists i lt;
        own = element;
        is = reached;
      }))
      | inr apart ↦ elim (edits_touch_reached_contexts d edit styles others (root_id d contexts i) edits (inl is_context)) [
        | inl kept ↦ inl (untouched S d edit styles others contexts later all rest takes edits lists later_lists i lt apart kept)
        | inr more ↦ inr more
      ]
    ]

pub anchors_touch_nothing_around : AnchorsTouchNothingAround
anchors_touch_nothing_around S d edit styles others contexts later all rest name takes edits restyling before later_box lists later_lists i lt =
    let is_context : IsContext d styles (root_id d contexts i) = subst (IsContextThere d.nodes styles) (sym (named d styles contexts all lists i lt)) (context-is d styles contexts all lists i lt) in
    elim (reached-known d edit edits.document (p d styles contexts all lists i lt) (p-in d styles contexts all lists i lt)) [
      | inl reached ↦ inr (record { place = p d styles contexts all lists i lt; named = named d styles contexts all lists i lt; reached = reached })
      | inr apart ↦ elim (anchors_keep_contexts_around d edit styles others name (root_id d contexts i) edits restyling before later_box (inl is_context)) [
        | inl kept ↦ inl (untouched S d edit styles others contexts later all rest takes edits lists later_lists i lt apart kept)
        | inr reached ↦ inr reached
      ]
    ]
