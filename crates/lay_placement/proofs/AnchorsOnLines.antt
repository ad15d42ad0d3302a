-- An anchor in a box that holds lines is on one of them.
use Rattle.std.proofs.Common.{◌≡◌, ℕ, zero, suc, ◌<◌, Bool, true, List, [], ◌∷◌, length, slice_index_or, Some, refl, sym, ap, ◌∙◌, arith}
use Rattle.std.proofs.Math.ListN.{get_or-map}
use Rattle.std.proofs.lemmas.Bool.{and_parts}
use Rattle.lay_box_tree.specs.declared.box_role.Role.{Role}
use Rattle.lay_box_tree.specs.declared.box_tree.BoxNode.{BoxNode}
use Rattle.lay_box_tree.specs.Roles.{role_at}
use Rattle.lay_space.specs.declared.segment.Segment.{Segment}
use Rattle.lay_line_items.specs.InlineItems.{items_of}
use Rattle.lay_line_items.specs.InlineSegments.{segments_in}
use Rattle.lay_lines.specs.declared.row.Ended.{Ended}
use Rattle.lay_line_measures.specs.BoxMeasuresValue.{BoxMeasuresValue}
use Rattle.lay_line_measures.specs.Stretches.{stretches_of}
use Rattle.lay_line_measures.specs.declared.container.Container.{Container}
use Rattle.lay_flow.specs.declared.blocks.flow_box.FlowBox.{FlowBox}
use Rattle.lay_flow.specs.declared.blocks.flow_box.FlowKind.{FlowKind}
use Rattle.lay_flow.specs.declared.blocks.flow_box.FlowKind.TheVariants.{Lines as with_lines}
use Rattle.lay_flow.specs.Blocks.BlockFloats.{Spot, content_of, floats_before, line_content_of, lines_at, no_spot}
use Rattle.lay_flow.specs.Blocks.BlockPositions.{is_lines}
use Rattle.lay_flow.specs.Blocks.Boxes.{box_at}
use Rattle.lay_flow.specs.Blocks.MarginRuns.{block_of}
use Rattle.lay_box_tree.specs.Containing.{container_of}
use Rattle.lay_placement.proofs.Cited.{boxes_in_lines_lem, container_within, kind_with}
use Rattle.lay_flow_boxes.specs.ContextBlocks.{content_of_box, holds_lines, is_anchor, line_container, lines_in, own_block}
use Rattle.lay_flow_boxes.specs.InlineContainers.{is_inline_container}
use Rattle.lay_flow_boxes.specs.LineItems.{IsInLinesAs, Sort, anchor, as_anchor, as_atomic, as_inline, as_left_float, as_right_float, as_text, sorts_of}
use Rattle.lay_flow_boxes.specs.PlaceInputs.{PlaceInput}
use Rattle.lay_placement.specs.ContextPlaces.{ContextPlaces, HasPlaces, measures_of, rows_at}
use Rattle.lay_placement.specs.Laws.{AnchorsAreOnLines}
use Rattle.lay_placement.proofs.AnchorSegments.{anchor_in_segments, sort_is_there}
use Rattle.lay_placement.proofs.AnchoredRows.{all_taken, left_over, top_there}

no_own : (boxes : List BoxNode) (k : ℕ) → is_anchor (role_at boxes k) ≡ true → 0 < k
no_own boxes zero e = absurd cc
no_own boxes (suc k) e = omega arith

anchor_sorts : (r : Role) (ss : List Sort) → IsInLinesAs r ss → is_anchor r ≡ true → ss ≡ anchor ∷ []
anchor_sorts r ss as_anchor e = refl
anchor_sorts r ss as_inline e = absurd cc
anchor_sorts r ss as_text e = absurd cc
anchor_sorts r ss as_atomic e = absurd cc
anchor_sorts r ss as_left_float e = absurd cc
anchor_sorts r ss as_right_float e = absurd cc

stretch_count : (m : BoxMeasuresValue) (c : Container) (begins : Bool) (ss : List Segment) → length (stretches_of m c begins ss) ≡ length ss
stretch_count m c begins [] = refl
stretch_count m c begins (s ∷ ss) = ap (λ n. suc n) (stretch_count m c s.forced ss)

-- Boxes of one formatting context, and a box that holds lines.
module _ (i : PlaceInput) (p : ContextPlaces) (has : HasPlaces i p) (c : ℕ) (within : c < length i.boxes) (lines : holds_lines (measures_of i p) p.shape.lefts c ≡ true) where
  abbrev m : BoxMeasuresValue
  m = measures_of i p

  held : lines_in m p.shape.lefts c ≡ Some (content_of_box m p.shape.lefts c)
  held = rw lines refl

  abbrev kind : FlowKind
  kind = (box_at p.shape.flow_boxes c).kind

  kind_is : kind ≡ with_lines (record { block = own_block m.boxes m.sizes i.own_height p.shape.lefts c; content = content_of_box m p.shape.lefts c })
  kind_is = ap (λ (b : FlowBox). b.kind) (has.is_shape.are_flow_boxes.each c within) ∙ kind_with m i.own_height p.shape.lefts c (content_of_box m p.shape.lefts c) held

  stretches_are : length (line_content_of kind).stretches ≡ length (segments_in i.face i.boxes c)
  stretches_are = ap (λ k. length (line_content_of k).stretches) kind_is ∙ stretch_count m (line_container m p.shape.lefts c) true (segments_in i.face i.boxes c)

  taken : left_over (rows_at p.places c) (length (segments_in i.face i.boxes c)) ≡ 0
  taken =
      let flow = has.is_flow.flow in
      let there : c < length p.shape.flow_boxes = omega (arith, within, has.is_shape.are_flow_boxes.count) in
      let are = has.is_flow.is_flow.by_clearances.lines c there (ap (λ k. is_lines (block_of k).inside) kind_is) in
      let rows : rows_at p.places c ≡ (lines_at flow.places c).rows = ap (λ all. rows_of all c) has.is_flow.places.lines ∙ get_or-map (λ (s : Spot). s.lines.rows) flow.places c no_spot in
      let all = all_taken (line_content_of kind) (content_of kind).left (content_of kind).right _ (floats_before p.shape.flow_boxes flow.places c) (lines_at flow.places c) are in
      ap (λ r. left_over r (length (segments_in i.face i.boxes c))) rows ∙ (sym (ap (left_over (lines_at flow.places c).rows) stretches_are) ∙ all)
    where
      rows_of : List (List Ended) → ℕ → List Ended
      rows_of all k = slice_index_or all k []

pub anchors_are_on_lines_lem : AnchorsAreOnLines
anchors_are_on_lines_lem i p k are others has lt is lines =
    let c : ℕ = container_of i.boxes k in
    let inline = (and_parts (is_inline_container i.boxes c) _ lines).0 in
    let positive = no_own i.boxes k is in
    let sorts = boxes_in_lines_lem i.boxes c k are others inline (record { behind = positive; within = lt; container = refl }) in
    let there = sort_is_there k (items_of i.boxes c) [] (anchor_sorts (role_at i.boxes k) (sorts_of k (items_of i.boxes c)) sorts is) in
    top_there k (rows_at p.places c) (segments_in i.face i.boxes c) (anchor_in_segments k i.face i.boxes c ∙ there)
    (taken i p has c (container_within i.boxes k are lt) lines)
