-- A context after an edit is untouched, or has a reached node among its own.
use Rattle.std.proofs.Common.{◌≡◌, ◌⊎◌, ⊎_elim, inl, inr, ◌<◌, ℕ, suc, Bool, true, false, not, ◌&&◌, List, [], ◌∷◌, length, slice_index, Option, None, Some, refl, ap, sym, subst, ◌∙◌, arith}
use Rattle.std.specs.Prelude.{◌↔◌}
use Rattle.std.proofs.lemmas.Bool.{cases_lt}
use Rattle.std.proofs.lemmas.Option.{same_Some}
use Rattle.lay_style.specs.declared.style.Style.{Style}
use Rattle.lay_style.specs.declared.style_words.TableLayout.{TableLayout}
use Rattle.lay_style.specs.declared.style_words.TableLayout.TheVariants.{Auto}
use Rattle.lay_style.specs.Places.{place_of}
use Rattle.lay_doc.specs.Document.{Document, ids_of}
use Rattle.lay_doc.specs.Edits.{after}
use Rattle.lay_kept_cells.proofs.Cited.{are_contexts, first_le, in_order, length-ids, marked-true, number_is_of, place-is, place-reads, place-there, within}
use Rattle.lay_box_tree.specs.BoxColumns.{box_at}
use Rattle.lay_box_tree.specs.declared.box_tree.BoxNode.{BoxNode}
use Rattle.lay_boxgen.specs.Contexts.{IsContext, IsContextAt, IsContextThere, box_at as node_box_at, is_marked}
use Rattle.lay_contexts.specs.Contexts.{AreContexts, Context, boxes_in, context_at}
use Rattle.lay_contexts.specs.FormattingContexts.{AreFormattingContexts, FormattingContext, boxes_in as boxes_of, formatting_context_at}
use Rattle.lay_contexts.specs.FormattingContextList.{first_number, number_of}
use Rattle.lay_context_sizes.specs.ShrinkToFit.{shrinks, shrinks_to_fit}
use Rattle.lay_table_sizes.specs.TableLayouts.{asks_fixed, has_width, is_fixed}
use Rattle.lay_context.specs.Laws.{MeasuredWhereShrunk}
use Rattle.lay_context.specs.Measured.{ShrinksOutward, around, is_measured, own}
use Rattle.lay_contexts.specs.Edited.Bound.{EditsTouchNoOthers, IsBoundUntouched, root_id}
use Rattle.lay_contexts.specs.Edited.Shrinking.{AreListsOf, IsWithinOutward, TakesAnonymousTables, first, outward}
use Rattle.lay_contexts.specs.Edited.Touched.{EditsTouchReachedContexts, HasReached}
use Rattle.lay_shape.specs.Touched.TouchedContexts.{IsUntouchedFrom}
use Rattle.lay_kept_cells.specs.Steps.TouchedContexts.{TouchedContextsAreReached}

-- contexts of a list, by the ids of their elements
module _ (d : Document) (styles : List Style) (contexts : List Context) (all : List FormattingContext) (lists : AreListsOf d styles contexts all) where
  abbrev place : ℕ → ℕ
  place i = (context_at contexts i).place

  in_spots : (i : ℕ) → i < length contexts → i < length lists.contexts_are.spots
  in_spots i lt = omega (arith, lt, lists.contexts_are.numbered.count)

  context_is : (i : ℕ) → i < length contexts → IsContextAt d.nodes styles (place i)
  context_is i lt = subst (IsContextAt d.nodes styles) (sym (place-there d styles contexts lists.contexts_are i lt)) (lists.contexts_are.are.are i (in_spots i lt))

  named : (i : ℕ) → i < length contexts → place_of (root_id d contexts i) (ids_of d.nodes) ≡ Some (place i)
  named i lt =
      let inside = within d.nodes styles (place i) (marked-true (is_marked (node_box_at d.nodes styles (place i))) (context_is i lt).establishes) in
      place-is (root_id d contexts i) (ids_of d.nodes) (λ j k less in_ids. lists.document.ids j k less (omega (arith, in_ids, length-ids d.nodes)))
      (place i) (omega (arith, inside, length-ids d.nodes)) refl

  has_id : (i : ℕ) → i < length contexts → IsContext d styles (root_id d contexts i)
  has_id i lt = subst (IsContextThere d.nodes styles) (sym (named i lt)) (context_is i lt)

  rises : (i k : ℕ) → i < k → k < length contexts → place i < place k
  rises i k less lt =
      let low = lists.contexts_are.are.rising i k less (in_spots k lt) in
      let here = place-there d styles contexts lists.contexts_are i (omega (arith, less, lt)) in
      let there = place-there d styles contexts lists.contexts_are k lt in
      omega (arith, low, here, there)

  one_id : (i k : ℕ) → i < length contexts → k < length contexts → root_id d contexts i ≡ root_id d contexts k → i ≡ k
  one_id i k li lk e =
      let same : place i ≡ place k = same_Some (place i) (place k) (sym (named i li) ∙ ap (λ (x : ℕ). place_of x (ids_of d.nodes)) e ∙ named k lk) in
      ⊎_elim
      (λ low. absurd (let r = rises i k low lk in omega (arith, r, same)))
      (λ high. ⊎_elim (λ low. absurd (let r = rises k i low li in omega (arith, r, same))) (λ also. omega (arith, high, also)) (cases_lt k i))
      (cases_lt i k)

  -- the number of the context of an element
  record HasNumber (id : ℕ) : Type 0 where
    number : ℕ
    before : number < length contexts
    is : root_id d contexts number ≡ id

  numbered : (id : ℕ) → IsContext d styles id → HasNumber id
  numbered id context = by (place_of id (ids_of d.nodes)) refl context
    where
      by : (o : Option ℕ) → place_of id (ids_of d.nodes) ≡ o → IsContextThere d.nodes styles o → HasNumber id
      by None e there = absurd there
      by (Some k) e there =
          let found = lists.contexts_are.are.all k there in
          let before : found.0 < length contexts = (let l = found.1 in omega (arith, l, lists.contexts_are.numbered.count)) in
          record {
            number = found.0;
            before = before;
            is = ap (slice_index (ids_of d.nodes)) (place-there d styles contexts lists.contexts_are found.0 before ∙ found.2) ∙ place-reads id (ids_of d.nodes) k e;
          }

  order : AreContexts contexts
  order = are_contexts d styles contexts lists.document lists.count lists.contexts_are

  order_all : AreFormattingContexts all
  order_all = in_order contexts all order lists.all_are

  number_there : (i : ℕ) → i < length contexts → number_of contexts i 0 < length all
  number_there i lt =
      let low = (number_is_of contexts i 0 (order.boxes i lt).some refl).until in
      let up = first_le contexts (suc i) (length contexts) (omega (arith, lt)) in
      omega (arith, low, up, lists.all_are.count)

-- the own box of some boxes may shrink to fit
shrinks_is : (boxes : List BoxNode) → shrinks_to_fit boxes ≡ shrinks (box_at boxes 0).flow (box_at boxes 0).kind (box_at boxes 0).style
shrinks_is [] = refl
shrinks_is (b ∷ boxes) = refl

automatic : (s : Style) → s.table.layout ≡ Auto → not (is_fixed s) ≡ true
automatic s e = ap (λ (l : TableLayout). not (asks_fixed l && has_width s.sizing.width)) e

shrinks_takes : TakesAnonymousTables shrinks
shrinks_takes = record { wrapper = automatic; inline_wrapper = automatic; cell = λ colspan rowspan s. refl }

to_within : (all : List FormattingContext) (m : ℕ) → ShrinksOutward all m → IsWithinOutward shrinks all m
to_within all m (own k e) = first m (sym (shrinks_is (boxes_of all m)) ∙ e)
to_within all m (around k some rest) = outward m some (to_within all (formatting_context_at all m).outer rest)

from_within : (all : List FormattingContext) (m : ℕ) → IsWithinOutward shrinks all m → ShrinksOutward all m
from_within all m (first k e) = own m (shrinks_is (boxes_of all m) ∙ e)
from_within all m (outward k some rest) = around m some (from_within all (formatting_context_at all m).outer rest)

same_flag : (a b : Bool) → (a ≡ true → b ≡ true) → (b ≡ true → a ≡ true) → a ≡ b
same_flag true b to back = sym (to refl)
same_flag false true to back = back refl
same_flag false false to back = refl

measured_same : MeasuredWhereShrunk → (all rest : List FormattingContext) → AreFormattingContexts all → AreFormattingContexts rest → (m n : ℕ) → m < length all → n < length rest
    → (IsWithinOutward shrinks all m ↔ IsWithinOutward shrinks rest n) → is_measured all m ≡ is_measured rest n
measured_same shrunk all rest are are_rest m n in_all in_rest same =
    same_flag (is_measured all m) (is_measured rest n)
    (λ e. (shrunk rest n are_rest in_rest).1 (from_within rest n (same.0 (to_within all m ((shrunk all m are in_all).0 e)))))
    (λ e. (shrunk all m are in_all).1 (from_within all m (same.1 (to_within rest n ((shrunk rest n are_rest in_rest).0 e)))))

module _ (shrunk : MeasuredWhereShrunk) (d e : Document) (styles others : List Style) (contexts later : List Context) (all rest : List FormattingContext)
    (lists : AreListsOf d styles contexts all) (later_lists : AreListsOf e others later rest) where
  -- what lay_contexts calls untouched is so
  untouched : (i j k : ℕ) → i < length contexts → j ≡ k → IsBoundUntouched shrinks d e contexts later all rest i j → IsUntouchedFrom contexts later all rest i k
  untouched i j k lt same u =
      let boxes : boxes_in contexts i ≡ boxes_in later k = u.boxes ∙ ap (boxes_in later) same in
      let here : number_of contexts i 0 ≡ first_number contexts i = omega arith in
      let there : number_of later j 0 ≡ first_number later j = omega arith in
      let roots = u.roots 0 ((order d styles contexts all lists).boxes i lt).some refl in
      let measured = measured_same shrunk all rest (order_all d styles contexts all lists) (order_all e others later rest later_lists) (number_of contexts i 0) (number_of later j 0)
      (number_there d styles contexts all lists i lt) (number_there e others later rest later_lists j u.within) roots in
      record {
        within = lt;
        node = ap (λ (bs : List BoxNode). (box_at bs 0).node) boxes;
        boxes = boxes;
        measured = ap (is_measured all) (sym here) ∙ measured ∙ ap (is_measured rest) there ∙ ap (λ (n : ℕ). is_measured rest (first_number later n)) same;
      }

pub touched_contexts_are_reached_lem : MeasuredWhereShrunk → EditsTouchReachedContexts → EditsTouchNoOthers → TouchedContextsAreReached
touched_contexts_are_reached_lem shrunk reach others_stay d edit styles others contexts later all rest edits lists later_lists j lt =
    let id : ℕ = root_id (after d edit) later j in
    elim (reach d edit styles others id edits (inr (has_id (after d edit) others later rest later_lists j lt))) [
      | inl kept ↦ (let n = numbered d styles contexts all lists id kept.before in
          elim (others_stay shrinks d edit styles others contexts later all rest shrinks_takes edits lists later_lists n.number n.before) [
            | inl u ↦ inl (
              n.number,
              untouched shrunk d (after d edit) styles others contexts later all rest lists later_lists n.number u.0 j n.before
                  (one_id (after d edit) others later rest later_lists u.0 j u.1.within lt (u.1.element ∙ n.is)) u.1,
            )
            | inr reached ↦ inr (subst (λ (x : ℕ). HasReached d styles edit x ⊎ HasReached (after d edit) others edit x) n.is reached)
          ])
      | inr more ↦ inr more
    ]
