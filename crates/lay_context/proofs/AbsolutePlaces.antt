-- An absolutely positioned box stands in its containing block on the page: what is counted from one formatting context to the next
-- leads from the page to where the tree has it.
use Rattle.std.proofs.Common.{◌≡◌, ◌<◌, ℕ, zero, suc, Bool, true, false, if◌then◌else◌, ℤ, pos, ◌+ℤ◌, ◌-ℤ◌, List, length, refl, sym, ap, ◌∙◌, subst, arith, option_map}
use Rattle.std.specs.Prelude.{Option, Some, None}
use Rattle.std.proofs.lemmas.Int.{ints}
use Rattle.lay_units.specs.declared.length.Unit.{Unit as Length}
use Rattle.lay_units.specs.declared.records.AbsOut.{AbsOut}
use Rattle.lay_units.specs.declared.records.Rect.{Rect}
use Rattle.lay_box_tree.specs.declared.box_tree.BoxNode.{BoxNode}
use Rattle.lay_box_tree.specs.Kinds.{is_wrapper}
use Rattle.lay_measure.specs.declared.preferred_widths.PreferredWidths.{PreferredWidths}
use Rattle.lay_context_sizes.specs.MeasuredContexts.{MeasuredContext}
use Rattle.lay_sizes.specs.declared.sizing.BoxSizes.{BoxSizes}
use Rattle.lay_sizes.specs.declared.sizing.ContainingBlock.{ContainingBlock}
use Rattle.lay_sizes.specs.SizeColumns.{sizes_at}
use Rattle.lay_abspos.specs.AbsoluteAxis.{IsUsedAxis}
use Rattle.lay_box_tree.specs.BoxColumns.{box_at}
use Rattle.lay_contexts.specs.FormattingContexts.{AreFormattingContexts, boxes_in, formatting_context_at}
use Rattle.lay_placements.specs.declared.corner.Corner.{Corner}
use Rattle.lay_placements.specs.declared.standing.Standing.{Standing}
use Rattle.lay_placements.specs.Corners.{corner_at, no_corner}
use Rattle.lay_placements.specs.Standings.{standing_at}
use Rattle.lay_flow_boxes.specs.PlaceInputs.{PlaceInput}
use Rattle.lay_table.specs.TableInputs.{TableInput}
use Rattle.lay_table_sizes.specs.TableSizesValue.{TableSizesValue}
use Rattle.lay_abspos.specs.declared.setting.AbsoluteSetting.{AbsoluteSetting}
use Rattle.lay_positioned.specs.Absolute.{is_absolute, is_fixed}
use Rattle.lay_abspos.specs.AbsoluteSizes.{border_start}
use Rattle.lay_positioned.specs.ContainingRects.{IsContainingRect, containing_in, held, initial, seen_from, viewport_rect, further as around}
use Rattle.lay_positioned.specs.HoldersOutward.{Holder, IsHolderOutward, further, here, viewport as by_viewport}
use Rattle.lay_positioned.specs.Layouts.{content_corner, step}
use Rattle.lay_abspos.specs.Offsets.{IsOffset, axis_of_height, corner_inside}
use Rattle.lay_positioned.specs.Settings.{absolute_setting, root_setting, setting_beside}
use Rattle.lay_context.proofs.Cited.{containing}
use Rattle.lay_context_sizes.specs.ContextSizes.{HasSizes, IsSizedAs, SizedContext}
use Rattle.lay_context_sizes.specs.TableContexts.{is_table}
use Rattle.lay_context_sizes.specs.declared.setting.Setting.{Setting}
use Rattle.lay_context_sizes.specs.declared.setting.Setting.TheVariants.{Absolute}
use Rattle.lay_abspos.specs.OwnOffsets.{IsOwnOffset, IsOwnOffsetBy, StandInput}
use Rattle.lay_abspos.specs.declared.own_place.OwnPlace.{OwnPlace}
use Rattle.lay_abspos.specs.declared.own_place.OwnPlace.TheVariants as own_place
use Rattle.lay_context.specs.AbsoluteOnPage.{IsAxisAcross, IsSolved, PageLayout, StandsInSetting, StandsInContainingBlock, anchor_on_page, block_on_page, content_on_page, rect_on_page, setting_on_page}
use Rattle.lay_context.specs.declared.task.Phase.TheVariants.{Size, Place}
use Rattle.lay_context.specs.declared.value.Value.TheVariants as value
use Rattle.lay_context.specs.DocumentLayout.{widths_in}
use Rattle.lay_context.specs.Laws.{AbsoluteBoxesStandInContainingBlocks}
use Rattle.lay_context.specs.Local.{IsLocal, flow_input, place_as, stand_input, table_input}
use Rattle.lay_context.specs.Medium.{Medium}
use Rattle.lay_context.specs.PageCorners.{HasPageCorners, beside, flow_standing, lowered, own_standing, standing_of}
use Rattle.lay_context.specs.PlacedContexts.{PlacedContext, placed_in, placement_in}
use Rattle.lay_context.specs.Settings.{flow_place, flow_setting, laid, sizes_in}

abbrev corner_of : (x y : Length) → Corner
corner_of x y = record { x = x; y = y }

abbrev length_of : ℤ → Length
length_of v = record { 0 = v }

-- what is in a box is counted from the same place on the page, by where it stands in the one around and by that's step
moved_out : (b : Bool) (o : Corner) (placed : PlacedContext) (flow : Standing)
    → lowered (if b then own_standing placed else flow).shift (beside o (if b then own_standing placed else flow).corner) ≡ beside o (if b then placed.offset else content_corner flow)
moved_out true o placed flow =
    let e : o.y.0 +ℤ placed.offset.y.0 +ℤ pos 0 ≡ o.y.0 +ℤ placed.offset.y.0 = omega (arith, ints) in
    ap (λ v. corner_of (record { 0 = o.x.0 +ℤ placed.offset.x.0 }) (length_of v)) e
moved_out false o placed flow =
    let e : o.y.0 +ℤ flow.corner.y.0 +ℤ flow.shift.0 ≡ o.y.0 +ℤ (flow.corner.y.0 +ℤ flow.shift.0) = omega (arith, ints) in
    ap (λ v. corner_of (record { 0 = o.x.0 +ℤ flow.corner.x.0 }) (length_of v)) e

-- the root's content stands at its corner
root_shift : (b : Bool) (placed : PlacedContext) → (if b then own_standing placed else own_standing placed).shift ≡ length_of (pos 0)
root_shift true placed = refl
root_shift false placed = refl

lowered_none : (c : Corner) → lowered (length_of (pos 0)) c ≡ c
lowered_none c =
    let e : c.y.0 +ℤ pos 0 ≡ c.y.0 = omega (arith, ints) in
    ap (λ v. corner_of c.x (length_of v)) e

abbrev rect_at : (x y : ℤ) (r : Rect) → Rect
rect_at x y r = record { x = record { 0 = x }; y = record { 0 = y }; w = r.w; h = r.h }

-- counted from a corner and then from the page, a rectangle is counted from where that corner is counted from
seen_back : (o s : Corner) (r : Rect) → rect_on_page (beside o s) (seen_from s r) ≡ rect_on_page o r
seen_back o s r =
    let x : o.x.0 +ℤ s.x.0 +ℤ (r.x.0 -ℤ s.x.0) ≡ o.x.0 +ℤ r.x.0 = omega (arith, ints) in
    let y : o.y.0 +ℤ s.y.0 +ℤ (r.y.0 -ℤ s.y.0) ≡ o.y.0 +ℤ r.y.0 = omega (arith, ints) in
    ap (λ v. rect_at v (o.y.0 +ℤ s.y.0 +ℤ (r.y.0 -ℤ s.y.0)) r) x ∙ ap (λ v. rect_at (o.x.0 +ℤ r.x.0) v r) y

seen_here : (s : Corner) (r : Rect) → rect_on_page s (seen_from s r) ≡ r
seen_here s r =
    let x : s.x.0 +ℤ (r.x.0 -ℤ s.x.0) ≡ r.x.0 = omega (arith, ints) in
    let y : s.y.0 +ℤ (r.y.0 -ℤ s.y.0) ≡ r.y.0 = omega (arith, ints) in
    ap (λ v. rect_at v (s.y.0 +ℤ (r.y.0 -ℤ s.y.0)) r) x ∙ ap (λ v. rect_at r.x.0 v r) y

module _ (p : PageLayout) where
  abbrev outer_of : ℕ → ℕ
  outer_of i = (formatting_context_at p.contexts i).outer

  module _ (viewport : ContainingBlock) (are : AreFormattingContexts p.contexts) (corners : HasPageCorners p.contexts p.workings.places p.corners) where
    -- the lemma of the whole: the content of an inner one on the page is that of the one around it and a step
    stepped : (i : ℕ) → 0 < i → i < length p.contexts → content_on_page p i ≡ beside (content_on_page p (outer_of i)) (step p.contexts (laid p.workings) i)
    stepped zero some within = absurd (omega (arith, some))
    stepped (suc i) some within =
        let at = corners.inner (suc i) some within in
        ap (lowered (standing_of p.contexts p.workings.places (suc i)).shift) at
        ∙ moved_out (is_absolute p.contexts (suc i)) (content_on_page p (outer_of (suc i))) (placed_in p.workings.places (suc i)) (flow_standing p.contexts p.workings.places (suc i))

    at_root : 0 < length p.contexts → content_on_page p 0 ≡ (placed_in p.workings.places 0).offset
    at_root some =
        ap (λ s. lowered s (corner_at p.corners 0)) (root_shift (is_absolute p.contexts 0) (placed_in p.workings.places 0))
        ∙ lowered_none (corner_at p.corners 0) ∙ corners.first some

    -- a containing block on the page
    record Found (fixed : Bool) (i k : ℕ) (r : Rect) : Type 0 where
      pub holder : Option Holder
      pub is : IsHolderOutward fixed p.contexts i k holder
      pub rect : rect_on_page (content_on_page p i) r ≡ block_on_page viewport p holder

    found : (fixed : Bool) (i k : ℕ) (r : Rect) → i < length p.contexts → IsContainingRect viewport fixed p.contexts (laid p.workings) i k r → Found fixed i k r
    found fixed i k r within (held i-1 k-1 box x) = record { holder = Some (record { context = i; box = box }); is = here i k box x; rect = refl }
    found fixed i k r within (around i-1 k-1 outside some none rest) =
        let c = formatting_context_at p.contexts i in
        let before = are.outer i some within in
        let out = found fixed c.outer c.outer_box outside (omega (arith, before, within)) rest in
        record {
          holder = out.holder;
          is = further i k out.holder some none out.is;
          rect = ap (λ o. rect_on_page o (seen_from (step p.contexts (laid p.workings) i) outside)) (stepped i some within)
              ∙ seen_back (content_on_page p c.outer) (step p.contexts (laid p.workings) i) outside ∙ out.rect;
        }
    found fixed i k r within (initial k-1 none) = record {
      holder = None;
      is = by_viewport k none;
      rect = ap (λ o. rect_on_page o (seen_from (placed_in p.workings.places 0).offset (viewport_rect viewport))) (at_root within)
          ∙ seen_here (placed_in p.workings.places 0).offset (viewport_rect viewport);
    }

-- a setting whose containing block is counted from further out
abbrev setting_from : Corner → AbsoluteSetting → AbsoluteSetting
setting_from o s = record { rect = rect_on_page o s.rect; static_left = s.static_left; static_top = s.static_top }

abbrev setting_as : Rect → (left top : ℤ) → AbsoluteSetting
setting_as r left top = record { rect = r; static_left = record { 0 = left }; static_top = record { 0 = top } }

-- an anchor is as far from a containing block on the page as elsewhere
setting_moved : (o a : Corner) (r : Rect) → setting_on_page (rect_on_page o r) (beside o a) ≡ setting_from o (setting_beside r a)
setting_moved o a r =
    let left : o.x.0 +ℤ a.x.0 -ℤ (o.x.0 +ℤ r.x.0) ≡ a.x.0 -ℤ r.x.0 = omega (arith, ints) in
    let top : o.y.0 +ℤ a.y.0 -ℤ (o.y.0 +ℤ r.y.0) ≡ a.y.0 -ℤ r.y.0 = omega (arith, ints) in
    ap (λ v. setting_as (rect_on_page o r) v (o.y.0 +ℤ a.y.0 -ℤ (o.y.0 +ℤ r.y.0))) left ∙ ap (λ v. setting_as (rect_on_page o r) (a.x.0 -ℤ r.x.0) v) top

-- its axes don't change by that
across_from : (b : Bool) (o : Corner) (s : AbsoluteSetting) (own : BoxNode) (widths : PreferredWidths) (width : Length) (out : AbsOut)
    → IsAxisAcross b s own widths width out → IsAxisAcross b (setting_from o s) own widths width out
across_from true o s own widths width out is = is
across_from false o s own widths width out is = is

down_from : (b : Bool) (o : Corner) (s : AbsoluteSetting) (own : BoxNode) (height : Length) (out : AbsOut)
    → IsUsedAxis (axis_of_height b s own height) out → IsUsedAxis (axis_of_height b (setting_from o s) own height) out
down_from true o s own height out is = is
down_from false o s own height out is = is

-- of what an absolutely positioned one is given its values are those of its equations
record IsAcross (b : Bool) (s : AbsoluteSetting) (own : BoxNode) (widths : PreferredWidths) (width left : Length) : Type 0 where
  pub out : AbsOut
  pub is : IsAxisAcross b s own widths width out
  pub left_is : left ≡ border_start out

across_as : (b : Bool) (s : AbsoluteSetting) (boxes : List BoxNode) (widths : MeasuredContext) (sizes : List BoxSizes) (table : Option TableSizesValue) (left : Length)
    → IsSizedAs b (record { boxes = boxes; measured = widths; setting = Absolute s }) sizes table left → IsAcross b s (box_at boxes 0) widths.widths (sizes_at sizes 0).widths.width left
across_as true s boxes widths sizes (Some table) left sized = record { out = sized.1.out; is = sized.1.across; left_is = sized.1.left_is }
across_as true s boxes widths sizes None left sized = absurd sized
across_as false s boxes widths sizes None left sized = record { out = sized.own.out; is = sized.own.across; left_is = sized.own.left_is }
across_as false s boxes widths sizes (Some table) left sized = absurd sized

offset_as : (flow : PlaceInput) (table : Option TableInput) (at : StandInput) (placed : PlacedContext) → IsLocal (place_as flow table at) (value.Place placed)
    → IsOwnOffset at placed.placement.own placed.offset
offset_as flow None at placed local = local.2
offset_as flow (Some table) at placed local = local.1

chosen : {A : Type 0} (b : Bool) (x y : A) → b ≡ true → (if b then x else y) ≡ x
chosen true x y e = refl
chosen false x y e = cc

module _ (medium : Medium) (p : PageLayout) (solved : IsSolved medium p) (i : ℕ) (within : i < length p.contexts) (absolute : is_absolute p.contexts i ≡ true) where
  abbrev boxes : List BoxNode
  boxes = boxes_in p.contexts i

  abbrev setting : AbsoluteSetting
  setting = absolute_setting medium.viewport p.contexts (laid p.workings) i

  abbrev sized : SizedContext
  sized = sizes_in p.workings.sizes i

  abbrev widths : MeasuredContext
  widths = widths_in p.workings.widths i

  has_sizes : HasSizes (record { boxes = boxes; measured = widths; setting = Absolute setting }) sized
  has_sizes =
      let e = chosen (is_absolute p.contexts i) (Absolute setting) (flow_setting medium.viewport p.contexts p.workings.sizes i) absolute in
      subst (λ (s : Setting). HasSizes (record { boxes = boxes; measured = widths; setting = s }) sized) e (solved.done (record { context = i; phase = Size }) within).1

  across : IsAcross (is_table boxes) setting (box_at boxes 0) widths.widths (sizes_at sized.boxes 0).widths.width sized.left
  across = across_as (is_table boxes) setting boxes widths sized.boxes sized.table sized.left has_sizes.boxes

  offset : IsOffset setting (box_at boxes 0) sized.left (placement_in p.workings.places i).own.height (placed_in p.workings.places i).offset
  offset =
      let at = stand_input medium p.contexts p.workings i in
      let stands = offset_as (flow_input medium p.contexts p.workings i) (option_map (table_input p.contexts p.workings i) sized.table) at (placed_in p.workings.places i) (solved.done (record { context = i; phase = Place }) within) in
      let e = chosen (is_absolute p.contexts i) (own_place.Absolute setting) (flow_place medium.viewport i) absolute in
      subst (λ (o : OwnPlace). IsOwnOffsetBy o at (placement_in p.workings.places i).own (placed_in p.workings.places i).offset) e stands

  -- so it stands in that setting, counted from where its offset is counted
  stands_from : (o : Corner) → corner_at p.corners i ≡ beside o (placed_in p.workings.places i).offset → StandsInSetting p i (setting_from o setting)
  stands_from o at =
      let wide = across in
      let out : AbsOut = wide.out in
      let down : AbsOut = offset.out in
      let corner : (placed_in p.workings.places i).offset ≡ corner_inside setting sized.left (border_start down) = offset.corner_is in
      let left : sized.left ≡ border_start out = wide.left_is in
      let place : corner_at p.corners i ≡ beside o (corner_inside setting (border_start out) (border_start down)) =
      at ∙ ap (beside o) corner ∙ ap (λ l. beside o (corner_inside setting l (border_start down))) left in
      let x : (corner_at p.corners i).x.0 ≡ o.x.0 +ℤ (setting.rect.x.0 +ℤ (out.left.0 +ℤ out.margin_left.0)) = ap (λ (c : Corner). c.x.0) place in
      let y : (corner_at p.corners i).y.0 ≡ o.y.0 +ℤ (setting.rect.y.0 +ℤ (down.left.0 +ℤ down.margin_left.0)) = ap (λ (c : Corner). c.y.0) place in
      record {
        across = out;
        down = down;
        is_across = across_from (is_table boxes) o setting (box_at boxes 0) widths.widths (sizes_at sized.boxes 0).widths.width out wide.is;
        is_down = down_from (is_wrapper (box_at boxes 0).kind) o setting (box_at boxes 0) (placement_in p.workings.places i).own.height down offset.down;
        x = omega (arith, ints, x);
        y = omega (arith, ints, y);
      }

module _ (medium : Medium) (p : PageLayout) (are : AreFormattingContexts p.contexts) (solved : IsSolved medium p) where
  stands_by : (i : ℕ) → i < length p.contexts → is_absolute p.contexts i ≡ true → StandsInContainingBlock medium.viewport p i
  stands_by zero within absolute =
      let v : Rect = viewport_rect medium.viewport in
      let o : Corner = no_corner in
      let offset : Corner = (placed_in p.workings.places 0).offset in
      let at : corner_at p.corners 0 ≡ beside o offset = solved.corners.first within ∙ sym (beside_none offset) in
      let s : setting_on_page v o ≡ setting_from o (root_setting medium.viewport) = refl in
      record {
        holder = None;
        is_holder = refl;
        stands = subst (λ (t : AbsoluteSetting). StandsInSetting p 0 t) (sym s) (stands_from medium p solved 0 within absolute o at);
      }
    where
      beside_none : (c : Corner) → beside no_corner c ≡ c
      beside_none c =
          let x : pos 0 +ℤ c.x.0 ≡ c.x.0 = omega (arith, ints) in
          let y : pos 0 +ℤ c.y.0 ≡ c.y.0 = omega (arith, ints) in
          ap (λ v. corner_of (length_of v) (length_of (pos 0 +ℤ c.y.0))) x ∙ ap (λ v. corner_of c.x (length_of v)) y
  stands_by (suc i) within absolute =
      let c = formatting_context_at p.contexts (suc i) in
      let before = are.outer (suc i) (omega arith) within in
      let fixed : Bool = is_fixed p.contexts (suc i) in
      let r : Rect = containing_in (suc i) medium.viewport fixed p.contexts (laid p.workings) c.outer c.outer_box in
      let rect = containing medium.viewport fixed p.contexts (laid p.workings) are (suc i) c.outer c.outer_box (omega (arith, before)) (omega (arith, before, within)) (are.outer_box (suc i) (omega arith) within) in
      let block = found p medium.viewport are solved.corners fixed c.outer c.outer_box r (omega (arith, before, within)) rect in
      let o : Corner = content_on_page p c.outer in
      let anchor : Corner = (standing_at (placement_in p.workings.places c.outer).standings c.outer_box).corner in
      let own = chosen (is_absolute p.contexts (suc i)) (own_standing (placed_in p.workings.places (suc i))) (flow_standing p.contexts p.workings.places (suc i)) absolute in
      let at : corner_at p.corners (suc i) ≡ beside o (placed_in p.workings.places (suc i)).offset = solved.corners.inner (suc i) (omega arith) within ∙ ap (λ (s : Standing). beside o s.corner) own in
      let s : setting_on_page (block_on_page medium.viewport p block.holder) (anchor_on_page p (suc i)) ≡ setting_from o (setting_beside r anchor) =
      ap (λ b. setting_on_page b (beside o anchor)) (sym block.rect) ∙ setting_moved o anchor r in
      record {
        holder = block.holder;
        is_holder = block.is;
        stands = subst (λ (t : AbsoluteSetting). StandsInSetting p (suc i) t) (sym s) (stands_from medium p solved (suc i) within absolute o at);
      }

pub absolute_boxes_stand_in_containing_blocks_lem : AbsoluteBoxesStandInContainingBlocks
absolute_boxes_stand_in_containing_blocks_lem medium p i are solved within absolute = stands_by medium p are solved i within absolute
