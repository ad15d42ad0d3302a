-- The boxes of a formatting context are something to its block flow: column by column, left border edges from outer to inner boxes.
use Rattle.std.proofs.Common.{◌≡◌, ℕ, zero, suc, ◌<◌, ◌≤◌, List, [], ◌∷◌, ◌++◌, length, map, refl, sym, ◌∙◌, arith, inl, inr}
use Rattle.std.specs.List.{range_with_len}
use Rattle.std.proofs.lemmas.Bool.{cases_lt}
use Rattle.std.proofs.lemmas.List.{length_push}
use Rattle.std.proofs.lemmas.List.FromFn.{get_or-map-range_with_len, length-map-range_with_len}
use Rattle.lay_units.specs.declared.length.Unit.{Unit as Length}
use Rattle.lay_box_tree.specs.declared.box_tree.BoxNode.{BoxNode}
use Rattle.lay_box_tree.specs.declared.inline_part.InlinePart.{InlinePart}
use Rattle.lay_box_tree.specs.ContextBoxes.{AreContextBoxes}
use Rattle.lay_box_tree.specs.InlineParts.{AreInlineParts, inline_part, no_part}
use Rattle.lay_flow.specs.declared.blocks.flow_box.FlowBox.{FlowBox}
use Rattle.lay_flow.specs.declared.blocks.flow_box.HeightRule.{HeightRule}
use Rattle.lay_flow.specs.Blocks.Boxes.{no_flow_box}
use Rattle.lay_flow.specs.Blocks.Lengths.{length_at}
use Rattle.lay_line_measures.specs.BoxMeasuresValue.{BoxMeasuresValue}
use Rattle.lay_sizes.specs.declared.sizing.BoxSizes.{BoxSizes}
use Rattle.lay_sizes.specs.declared.own_boxes.OwnBox.{OwnBox}
use Rattle.lay_flow_boxes.specs.ContextBlocks.{AreFlowBoxesOf, HasLefts, flow_box_of, left_of_box}
use Rattle.lay_flow_boxes.specs.FlowShapes.{measures_in}
use Rattle.lay_flow_boxes.specs.Laws.{SomeFlowShape}
use Rattle.lay_flow_boxes.proofs.LeftSteps.{left_before, read_before, read_last}

-- the first n of what is known by its place
abbrev listed : {X : Type 0} → (ℕ → X) → ℕ → List X
listed f n = map f (range_with_len 0 n)

some_parts : (boxes : List BoxNode) → (parts : List InlinePart) × AreInlineParts boxes parts
some_parts boxes =
    let f : ℕ → InlinePart = inline_part boxes in
    let n : ℕ = length boxes in (
      listed f n,
      record { count = length-map-range_with_len f 0 n; each = λ k less. get_or-map-range_with_len f 0 n k k no_part less (omega arith) },
    )

some_flow_boxes : (m : BoxMeasuresValue) (own_height : HeightRule) (lefts : List Length)
    → (flow_boxes : List FlowBox) × AreFlowBoxesOf m own_height lefts flow_boxes
some_flow_boxes m own_height lefts =
    let f : ℕ → FlowBox = flow_box_of m own_height lefts in
    let n : ℕ = length m.boxes in (
      listed f n,
      record { count = length-map-range_with_len f 0 n; each = λ k less. get_or-map-range_with_len f 0 n k k no_flow_box less (omega arith) },
    )

module _ (boxes : List BoxNode) (sizes : List BoxSizes) (inner : List OwnBox) (are : AreContextBoxes boxes) where
  -- those of the first n boxes
  record FirstLefts (n : ℕ) : Type 0 where
    lefts : List Length
    count : length lefts ≡ n
    each : (k : ℕ) → k < n → length_at lefts k ≡ (left_of_box boxes sizes inner lefts k).0

  first_lefts : (n : ℕ) → n ≤ length boxes → FirstLefts n
  first_lefts zero le = record { lefts = []; count = refl; each = λ k lt. absurd (omega (arith, lt)) }
  first_lefts (suc n) le =
      let so_far = first_lefts n (omega (arith, le)) in
      let ls = so_far.lefts in
      let counted = so_far.count in
      let next : Length = left_of_box boxes sizes inner ls n in
      let longer = length_push ls next in
      record {
        lefts = ls ++ next ∷ [];
        count = omega (arith, counted, longer);
        each = λ k lt. elim (cases_lt k n) [
          | inl low ↦ read_before ls next k (omega (arith, counted, low)) ∙ so_far.each k low
              ∙ sym (left_before boxes sizes inner ls next k are (omega (arith, low, le)) (omega (arith, counted, low)))
          | inr high ↦ (let q : k ≡ n = omega (arith, lt, high) in
              rw q (read_last ls next n (sym counted) ∙ sym (left_before boxes sizes inner ls next n are (omega (arith, le)) (omega (arith, counted)))))
        ];
      }

  some_lefts : (lefts : List Length) × HasLefts boxes sizes inner lefts
  some_lefts = let all = first_lefts (length boxes) (omega arith) in (all.lefts, record { count = all.count; each = all.each })

pub some_flow_shape_lem : SomeFlowShape
some_flow_shape_lem i are =
    let parts = some_parts i.boxes in
    let lefts = some_lefts i.boxes i.sizes i.inner are in
    let flow_boxes = some_flow_boxes (measures_in i parts.0) i.own_height lefts.0 in (
      record { parts = parts.0; lefts = lefts.0; flow_boxes = flow_boxes.0 },
      record { are_parts = parts.1; has_lefts = lefts.1; are_flow_boxes = flow_boxes.1 },
    )
