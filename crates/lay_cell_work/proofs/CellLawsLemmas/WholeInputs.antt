-- What a root is given is whole again where its cell has the values of the other roots.
use Rattle.std.proofs.Common.{◌≡◌, ◌<◌, ◌+◌, ◌-◌, ℕ, zero, suc, Bool, true, false, if◌then◌else◌, List, [], ◌∷◌, length, map, slice_index, slice_index_or, Option, None, Some, option_map, refl, ap, sym, ◌∙◌, arith}
use Rattle.std.proofs.lemmas.List.{get_or-map, length-map}
use Rattle.std.proofs.lemmas.List.FromFn.{get_or-map-range_with_len, length-map-range_with_len}
use Rattle.lay_frag.specs.declared.frag.Frag.{Frag}
use Rattle.lay_box_tree.specs.declared.box_tree.BoxNode.{BoxNode}
use Rattle.lay_measure.specs.MeasureInValue.{no_widths}
use Rattle.lay_measure.specs.declared.preferred_widths.PreferredWidths.{PreferredWidths}
use Rattle.lay_context_sizes.specs.MeasuredContexts.{MeasuredContext, not_measured}
use Rattle.lay_sizes.specs.declared.own_boxes.OwnBox.{OwnBox}
use Rattle.lay_sizes.specs.OwnBoxes.{no_own_box}
use Rattle.lay_sizes.specs.declared.sizing.ContainingBlock.{ContainingBlock}
use Rattle.lay_table_sizes.specs.TableSizesValue.{TableSizesValue}
use Rattle.lay_contexts.specs.Contexts.{AreContexts, Context}
use Rattle.lay_contexts.specs.FormattingContexts.{FormattingContext, boxes_in, formatting_context_at}
use Rattle.lay_contexts.specs.FormattingContextList.{AreFormattingContextsOf, first_number}
use Rattle.lay_cell_work.proofs.Cited.{Numbered}
use Rattle.lay_positioned.specs.Absolute.{is_absolute}
use Rattle.lay_positioned.specs.Settings.{absolute_setting}
use Rattle.lay_context_sizes.specs.ContextSizes.{SizedContext, not_sized}
use Rattle.lay_context_sizes.specs.declared.setting.Setting.{Setting}
use Rattle.lay_context_sizes.specs.declared.setting.Setting.TheVariants.{Absolute}
use Rattle.lay_context.specs.declared.input.Input.{Input}
use Rattle.lay_context.specs.declared.input.Input.TheVariants as input
use Rattle.lay_context.specs.declared.task.Phase.{Phase}
use Rattle.lay_context.specs.declared.task.Phase.TheVariants as phase
use Rattle.lay_context.specs.DocumentLayout.{flow_number, flow_numbers, inner_boxes, inner_pieces, inner_widths_in, own_box_in, painted_of, pieces_in, widths_in}
use Rattle.lay_context.specs.Local.{flow_input, input_of, measure_as, measure_input, place_as, size_input, stand_input, table_input}
use Rattle.lay_context.specs.Measured.{is_measured}
use Rattle.lay_context.specs.Medium.{Medium}
use Rattle.lay_context.specs.PlacedContexts.{PlacedContext, not_placed, placed_in, placement_in}
use Rattle.lay_context.specs.Settings.{flow_setting, laid, setting_in, setting_of, sizes_in}
use Rattle.lay_context.specs.Workings.{Workings}
use Rattle.lay_cell_work.specs.declared.root_spot.RootSpot.{RootSpot}
use Rattle.lay_cell_work.specs.CellColumns.{filled, link_to, links_of, masked}
use Rattle.lay_cell_work.specs.CellInputs.{RootInput}
use Rattle.lay_cell_work.specs.CellLocal.{boxes_given, filled_input, filled_setting, masked_input, masked_setting, setting_at, sized_boxes, whole_input}
use Rattle.lay_cell_work.specs.CellValues.{CellValue, own_boxes, own_pieces, own_measured, own_places, own_sizes, own_widths}
use Rattle.lay_cell_work.specs.KeptValues.{end_to_end, workings_of}
use Rattle.lay_cell_work.specs.PresentInputs.{asked_links, asked_spot, present_input, root_count, root_input, spot_in}
use Rattle.lay_cell_work.proofs.CellLawsLemmas.EndToEnd.{stands}
use Rattle.lay_cell_work.proofs.CellLawsLemmas.Masks.{Agrees, whole}
use Rattle.lay_cell_work.proofs.CellLawsLemmas.RootsOfContexts.{AreCalm, IsOf, anonymous_flows, anonymous_some, inner_is_of, outer_is_of}

pub map_at : {X Y : Type 0} (f : X → Y) (xs : List X) (r : ℕ) (d : X) → slice_index_or (map f xs) r (f d) ≡ f (slice_index_or xs r d)
map_at f [] zero d = refl
map_at f [] (suc r) d = refl
map_at f (x ∷ xs) zero d = refl
map_at f (x ∷ xs) (suc r) d = map_at f xs r d

some_is : (x y : ℕ) → Some x ≡ Some y → x ≡ y
some_is x y e = cc

-- what a link is
pub record IsLinked (all : List FormattingContext) (first j r : ℕ) : Type 0 where
  pub some : 0 < j
  pub anonymous : (formatting_context_at all j).anonymous ≡ true
  pub is : r ≡ j - first

pub link_is : (all : List FormattingContext) (first j r : ℕ) → link_to all first j ≡ Some r → IsLinked all first j r
link_is all first zero r e = absurd cc
link_is all first (suc j) r e = by (formatting_context_at all (suc j)).anonymous refl e
  where
    by : (b : Bool) → (formatting_context_at all (suc j)).anonymous ≡ b → (if b then Some (suc j - first) else None) ≡ Some r → IsLinked all first (suc j) r
    by true a f = record { some = omega arith; anonymous = a; is = sym (some_is (suc j - first) r f) }
    by false a f = absurd cc

-- a number of one in flow is its number
flow_by : (b : Bool) (x j : ℕ) → (if b then 0 else x) ≡ j → 0 < j → x ≡ j
flow_by true x j e some = absurd (omega (arith, e, some))
flow_by false x j e some = e

pub flow_is : (all : List FormattingContext) (x j : ℕ) → flow_number all x ≡ j → 0 < j → x ≡ j
flow_is all x j e some = flow_by (is_absolute all x) x j e some

pub widths_some : (ws : List MeasuredContext) (j : ℕ) → 0 < j → inner_widths_in ws j ≡ (widths_in ws j).widths
widths_some ws zero some = absurd (omega (arith, some))
widths_some ws (suc j) some = refl

pub box_some : (places : List PlacedContext) (j : ℕ) → 0 < j → own_box_in places j ≡ (placed_in places j).placement.own
box_some places zero some = absurd (omega (arith, some))
box_some places (suc j) some = refl

pieces_some : (all : List FormattingContext) (places : List PlacedContext) (j : ℕ) → 0 < j → (formatting_context_at all j).anonymous ≡ true → pieces_in all places j ≡ (placed_in places j).placement.pieces
pieces_some all places zero some anonymous = absurd (omega (arith, some))
pieces_some all places (suc j) some anonymous = ap (λ (b : Bool). painted_of b (placement_in places (suc j))) anonymous

pub setting_by : (b : Bool) (x y : Setting) → b ≡ false → (if b then x else y) ≡ y
setting_by b x y e = rw e refl

pub flow_some : (viewport : ContainingBlock) (all : List FormattingContext) (sizes : List SizedContext) (m : ℕ) → 0 < m
    → flow_setting viewport all sizes m ≡ setting_in (boxes_in all (formatting_context_at all m).outer) (sizes_in sizes (formatting_context_at all m).outer) (formatting_context_at all m).outer_box
flow_some viewport all sizes zero some = absurd (omega (arith, some))
flow_some viewport all sizes (suc m) some = refl

-- a value at its number
at : {X : Type 0} (nothing : X) (contexts : List Context) (column : ℕ → List X) (c j : ℕ) → c < length contexts → IsOf contexts c j
    → slice_index_or (end_to_end nothing contexts column (length contexts)) j nothing ≡ slice_index_or (column c) (j - first_number contexts c) nothing
at {X} nothing contexts column c j lt is =
    let from = is.from in
    let until = is.until in
    let e : j ≡ first_number contexts c + (j - first_number contexts c) = omega (arith, from) in
    ap (λ (i : ℕ). slice_index_or (end_to_end nothing contexts column (length contexts)) i nothing) e
    ∙ stands nothing contexts column (length contexts) c (j - first_number contexts c) lt (omega (arith, from, until))

module _ (contexts : List Context) (kept : ℕ → Phase → CellValue) where
  pub widths_at : (c j : ℕ) → c < length contexts → IsOf contexts c j
      → widths_in (workings_of contexts kept).widths j ≡ widths_in (own_measured (kept c phase.Measure)) (j - first_number contexts c)
  widths_at c j lt is = at not_measured contexts (λ d. own_measured (kept d phase.Measure)) c j lt is

  pub sizes_at : (c j : ℕ) → c < length contexts → IsOf contexts c j → sizes_in (workings_of contexts kept).sizes j ≡ sizes_in (own_sizes (kept c phase.Size)) (j - first_number contexts c)
  sizes_at c j lt is = at not_sized contexts (λ d. own_sizes (kept d phase.Size)) c j lt is

  pub placed_at : (c j : ℕ) → c < length contexts → IsOf contexts c j → placed_in (workings_of contexts kept).places j ≡ placed_in (own_places (kept c phase.Place)) (j - first_number contexts c)
  placed_at c j lt is = at not_placed contexts (λ d. own_places (kept d phase.Place)) c j lt is

module _ (medium : Medium) (contexts : List Context) (all : List FormattingContext) (are : AreContexts contexts) (of : AreFormattingContextsOf contexts all) (kept : ℕ → Phase → CellValue) where
  abbrev W : Workings
  W = workings_of contexts kept

  module _ (m : ℕ) (lt : m < length all) (n : Numbered contexts (length contexts) m) where
    abbrev First : ℕ
    First = first_number contexts n.context

    -- what is linked in it is a root of the same context
    linked_of : (k r : ℕ) → k < length (flow_numbers all m) → link_to all First (slice_index (flow_numbers all m) k) ≡ Some r → IsOf contexts n.context (slice_index (flow_numbers all m) k)
    linked_of k r within e =
        let inner : List ℕ = (formatting_context_at all m).inner in
        let l = link_is all First (slice_index (flow_numbers all m) k) r e in
        let count : length (flow_numbers all m) ≡ length inner = length-map inner (flow_number all) in
        let inside : k < length inner = omega (arith, within, count) in
        let number = get_or-map (flow_number all) inner k 0 0 inside in
        let is = flow_is all (slice_index inner k) (slice_index (flow_numbers all m) k) (sym number) l.some in
        inner_is_of contexts all are of m k (slice_index (flow_numbers all m) k) lt n inside is l.some l.anonymous

    widths_agree : Agrees no_widths (own_widths (kept n.context phase.Measure)) (link_to all First) (inner_widths_in W.widths) (flow_numbers all m)
    widths_agree k r within e =
        let j : ℕ = slice_index (flow_numbers all m) k in
        let l = link_is all First j r e in
        let own : List MeasuredContext = own_measured (kept n.context phase.Measure) in
        widths_some W.widths j l.some ∙ ap (λ (m : MeasuredContext). m.widths) (widths_at contexts kept n.context j n.before (linked_of k r within e) ∙ ap (λ (i : ℕ). widths_in own i) (sym l.is))
        ∙ sym (map_at (λ (m : MeasuredContext). m.widths) own r not_measured)

    boxes_agree : Agrees no_own_box (own_boxes (kept n.context phase.Place)) (link_to all First) (own_box_in W.places) (flow_numbers all m)
    boxes_agree k r within e =
        let j : ℕ = slice_index (flow_numbers all m) k in
        let l = link_is all First j r e in
        let own : List PlacedContext = own_places (kept n.context phase.Place) in
        box_some W.places j l.some ∙ ap (λ (p : PlacedContext). p.placement.own) (placed_at contexts kept n.context j n.before (linked_of k r within e) ∙ ap (λ (i : ℕ). placed_in own i) (sym l.is))
        ∙ sym (map_at (λ (p : PlacedContext). p.placement.own) own r not_placed)

    pieces_agree : Agrees [] (own_pieces (kept n.context phase.Place)) (link_to all First) (pieces_in all W.places) (flow_numbers all m)
    pieces_agree k r within e =
        let j : ℕ = slice_index (flow_numbers all m) k in
        let l = link_is all First j r e in
        let own : List PlacedContext = own_places (kept n.context phase.Place) in
        pieces_some all W.places j l.some l.anonymous ∙ ap (λ (p : PlacedContext). p.placement.pieces) (placed_at contexts kept n.context j n.before (linked_of k r within e) ∙ ap (λ (i : ℕ). placed_in own i) (sym l.is))
        ∙ sym (map_at (λ (p : PlacedContext). p.placement.pieces) own r not_placed)

    abbrev Links : List (Option ℕ)
    Links = links_of all First m

    abbrev Around : Option RootSpot
    Around = spot_in all First m

    -- what is given, masked and filled
    abbrev Whole : List RootInput → CellValue → Input → Input
    Whole roots v given = filled_input roots v (asked_links given Links) (asked_spot given Around) (masked_input Links Around given)

    whole_measure : (roots : List RootInput) (b : Bool) → Whole roots (kept n.context phase.Measure) (measure_as b (measure_input medium all W m)) ≡ measure_as b (measure_input medium all W m)
    whole_measure roots true =
        ap (λ (inner : List PreferredWidths). input.Measure (record (measure_input medium all W m) { inner = inner }))
        (whole no_widths (own_widths (kept n.context phase.Measure)) (link_to all First) (inner_widths_in W.widths) (flow_numbers all m) widths_agree)
    whole_measure roots false = refl

    whole_boxes : filled no_own_box (own_boxes (kept n.context phase.Place)) Links (masked no_own_box Links (inner_boxes all W.places m)) ≡ inner_boxes all W.places m
    whole_boxes = whole no_own_box (own_boxes (kept n.context phase.Place)) (link_to all First) (own_box_in W.places) (flow_numbers all m) boxes_agree

    whole_pieces : filled [] (own_pieces (kept n.context phase.Place)) Links (masked [] Links (inner_pieces all W.places m)) ≡ inner_pieces all W.places m
    whole_pieces = whole [] (own_pieces (kept n.context phase.Place)) (link_to all First) (pieces_in all W.places) (flow_numbers all m) pieces_agree

    abbrev Placed : Option TableSizesValue → Input
    Placed table = place_as (flow_input medium all W m) (option_map (table_input all W m) table) (stand_input medium all W m)

    whole_place : (roots : List RootInput) (table : Option TableSizesValue) → Whole roots (kept n.context phase.Place) (Placed table) ≡ Placed table
    whole_place roots None =
        let put : List OwnBox → List (List Frag) → Input = λ inner pieces. input.Place (record (flow_input medium all W m) { inner = inner; pieces = pieces }) (stand_input medium all W m) in
        ap (λ (inner : List OwnBox). put inner (filled [] (own_pieces (kept n.context phase.Place)) Links (masked [] Links (inner_pieces all W.places m)))) whole_boxes
        ∙ ap (put (inner_boxes all W.places m)) whole_pieces
    whole_place roots (Some table) =
        let put : List OwnBox → List (List Frag) → Input = λ inner pieces. input.PlaceTable (record (table_input all W m table) { inner = inner; pieces = pieces }) (stand_input medium all W m) in
        ap (λ (inner : List OwnBox). put inner (filled [] (own_pieces (kept n.context phase.Place)) Links (masked [] Links (inner_pieces all W.places m)))) whole_boxes
        ∙ ap (put (inner_boxes all W.places m)) whole_pieces

    -- the boxes of another root of the cell
    abbrev Roots : List RootInput
    Roots = (present_input medium contexts all W n.context phase.Size).roots

    boxes_there : (j : ℕ) → IsOf contexts n.context j → boxes_given Roots (j - First) ≡ boxes_in all j
    boxes_there j is =
        let from = is.from in
        let until = is.until in
        let f : ℕ → RootInput = λ r. root_input medium all W First (First + r) phase.Size in
        let count : length Roots ≡ root_count contexts n.context = length-map-range_with_len f 0 (root_count contexts n.context) in
        let low : j - First < root_count contexts n.context = omega (arith, from, until) in
        let e : First + (j - First) ≡ j = omega (arith, from) in
        get_or-map (λ (x : RootInput). sized_boxes x.given) Roots (j - First) (f 0) [] (omega (arith, low, count))
        ∙ ap (λ (x : RootInput). sized_boxes x.given) (get_or-map-range_with_len f 0 (root_count contexts n.context) (j - First) (j - First) (f 0) low (omega arith))
        ∙ ap (boxes_in all) e

    setting_there : AreCalm contexts → (formatting_context_at all m).anonymous ≡ true
        → setting_at Roots (kept n.context phase.Size) (record { root = (formatting_context_at all m).outer - First; place = (formatting_context_at all m).outer_box }) ≡ setting_of medium.viewport all W m
    setting_there calm anonymous =
        let outer : ℕ = (formatting_context_at all m).outer in
        let box : ℕ = (formatting_context_at all m).outer_box in
        let is = outer_is_of contexts all are of m lt n anonymous in
        let flows = anonymous_flows contexts all are of calm m lt n anonymous in
        let some = anonymous_some contexts all are of m lt n anonymous in
        ap (λ (boxes : List BoxNode). setting_in boxes (sizes_in (own_sizes (kept n.context phase.Size)) (outer - First)) box) (boxes_there outer is)
        ∙ ap (λ (sized : SizedContext). setting_in (boxes_in all outer) sized box) (sym (sizes_at contexts kept n.context outer n.before is))
        ∙ sym (flow_some medium.viewport all W.sizes m some)
        ∙ sym (setting_by (is_absolute all m) (Absolute (absolute_setting medium.viewport all (laid W) m)) (flow_setting medium.viewport all W.sizes m) flows)

    whole_setting : AreCalm contexts → (b : Bool) → (formatting_context_at all m).anonymous ≡ b → (around : Option RootSpot)
        → around ≡ (if b then Some (record { root = (formatting_context_at all m).outer - First; place = (formatting_context_at all m).outer_box }) else None)
        → filled_setting Roots (kept n.context phase.Size) around (masked_setting around (setting_of medium.viewport all W m)) ≡ setting_of medium.viewport all W m
    whole_setting calm true anonymous around e = rw e (setting_there calm anonymous)
    whole_setting calm false anonymous around e = rw e refl

    whole_size : AreCalm contexts → Whole Roots (kept n.context phase.Size) (input.Size (size_input medium all W m)) ≡ input.Size (size_input medium all W m)
    whole_size calm =
        ap (λ (setting : Setting). input.Size (record (size_input medium all W m) { setting = setting }))
        (whole_setting calm (formatting_context_at all m).anonymous refl Around refl)

    -- filled with what its cell answers, what a root is given is what its task is given
    pub whole_is : AreCalm contexts → (p : Phase)
        → whole_input (present_input medium contexts all W n.context p).roots (kept n.context p) (root_input medium all W First m p) ≡ input_of medium all W (record { context = m; phase = p })
    whole_is calm phase.Measure = whole_measure (present_input medium contexts all W n.context phase.Measure).roots (is_measured all m)
    whole_is calm phase.Size = whole_size calm
    whole_is calm phase.Place = whole_place (present_input medium contexts all W n.context phase.Place).roots (sizes_in W.sizes m).table
