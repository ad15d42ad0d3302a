-- The boxes of a formatting context are one thing to its block flow, column by column.
use Rattle.std.proofs.Common.{◌≡◌, ℕ, zero, suc, ◌<◌, ◌≤◌, ℤ, ◌+ℤ◌, List, length, refl, sym, ap, ◌∙◌, arith, inl, inr}
use Rattle.std.proofs.lemmas.Bool.{cases_lt}
use Rattle.std.proofs.lemmas.List.{ext_get_or}
use Rattle.lay_units.specs.declared.length.Unit.{Unit as Length}
use Rattle.lay_units.specs.Lengths.{no_length}
use Rattle.lay_box_tree.specs.declared.box_tree.BoxNode.{BoxNode}
use Rattle.lay_box_tree.specs.declared.inline_part.InlinePart.{InlinePart}
use Rattle.lay_box_tree.specs.InlineParts.{AreInlineParts, no_part}
use Rattle.lay_flow.specs.declared.blocks.flow_box.FlowBox.{FlowBox}
use Rattle.lay_flow.specs.declared.blocks.flow_box.HeightRule.{HeightRule}
use Rattle.lay_flow.specs.Blocks.Boxes.{no_flow_box}
use Rattle.lay_flow.specs.Blocks.Lengths.{length_at}
use Rattle.lay_line_measures.specs.BoxMeasuresValue.{BoxMeasuresValue}
use Rattle.lay_sizes.specs.declared.sizing.BoxSizes.{BoxSizes}
use Rattle.lay_sizes.specs.declared.own_boxes.OwnBox.{OwnBox}
use Rattle.lay_sizes.specs.SizeColumns.{sizes_at}
use Rattle.lay_box_tree.specs.Containing.{container_of}
use Rattle.lay_box_tree.specs.ContextBoxes.{AreContextBoxes}
use Rattle.lay_flow_boxes.proofs.Cited.{container_before}
use Rattle.lay_flow_boxes.specs.ContextBlocks.{left_of_box, AreFlowBoxesOf, HasLefts}
use Rattle.lay_flow_boxes.specs.FlowShapes.{measures_in}
use Rattle.lay_flow_boxes.specs.Laws.{OneFlowShape}
use Rattle.lay_flow_boxes.specs.Outside.{outside}

left_same : (boxes : List BoxNode) (sizes : List BoxSizes) (inner : List OwnBox) (ls ms : List Length) → AreContextBoxes boxes → (k : ℕ) → k < length boxes → ((j : ℕ) → j < k → length_at ls j ≡ length_at ms j)
    → (left_of_box boxes sizes inner ls k).0 ≡ (left_of_box boxes sizes inner ms k).0
left_same boxes sizes inner ls ms are zero within same = refl
left_same boxes sizes inner ls ms are (suc k) within same =
    let p : ℕ = container_of boxes (suc k) in
    ap (λ (v : ℤ). v +ℤ (sizes_at sizes p).edges.left.0 +ℤ (outside boxes sizes inner (suc k)).margin.left.0) (same p (container_before boxes (suc k) are (omega arith) within))

-- left edges agree from the context's own box on, since each rests on its parent's
lefts_to : (boxes : List BoxNode) (sizes : List BoxSizes) (inner : List OwnBox) (ls ms : List Length) → AreContextBoxes boxes → HasLefts boxes sizes inner ls → HasLefts boxes sizes inner ms → (n : ℕ) → n ≤ length boxes → (k : ℕ) → k < n → length_at ls k ≡ length_at ms k
lefts_to boxes sizes inner ls ms are a b zero le k lt = absurd (omega arith)
lefts_to boxes sizes inner ls ms are a b (suc n) le k lt = elim (cases_lt k n) [
  | inl low ↦ lefts_to boxes sizes inner ls ms are a b n (omega arith) k low
  | inr high ↦ a.each k (omega arith) ∙ left_same boxes sizes inner ls ms are k (omega arith) (λ j jl. lefts_to boxes sizes inner ls ms are a b n (omega arith) j (omega arith)) ∙ sym (b.each k (omega arith))
]

one_left_column : (boxes : List BoxNode) (sizes : List BoxSizes) (inner : List OwnBox) (ls ms : List Length) → AreContextBoxes boxes → HasLefts boxes sizes inner ls → HasLefts boxes sizes inner ms → ls ≡ ms
one_left_column boxes sizes inner ls ms are a b =
    ext_get_or no_length ls ms (a.count ∙ sym b.count) (λ k lt. ap (λ (v : ℤ). let l : Length = record { 0 = v } in l) (lefts_to boxes sizes inner ls ms are a b (length boxes) (omega arith) k (omega (arith, a.count))))

one_part_list : (boxes : List BoxNode) (x y : List InlinePart) → AreInlineParts boxes x → AreInlineParts boxes y → x ≡ y
one_part_list boxes x y a b =
    ext_get_or no_part x y (a.count ∙ sym b.count) (λ k lt. (let within : k < length boxes = omega (arith, a.count) in a.each k within ∙ sym (b.each k within)))

one_box_list : (m : BoxMeasuresValue) (own_height : HeightRule) (lefts : List Length) (bs cs : List FlowBox) → AreFlowBoxesOf m own_height lefts bs → AreFlowBoxesOf m own_height lefts cs → bs ≡ cs
one_box_list m own_height lefts bs cs a b =
    ext_get_or no_flow_box bs cs (a.count ∙ sym b.count) (λ k lt. (let within : k < length m.boxes = omega (arith, a.count) in a.each k within ∙ sym (b.each k within)))

pub one_flow_shape_lem : OneFlowShape
one_flow_shape_lem i s t are a b =
    let parts = one_part_list i.boxes s.parts t.parts a.are_parts b.are_parts in
    let lefts = one_left_column i.boxes i.sizes i.inner s.lefts t.lefts are a.has_lefts b.has_lefts in
    let there : AreFlowBoxesOf (measures_in i s.parts) i.own_height s.lefts t.flow_boxes = rw (parts, lefts) b.are_flow_boxes in
    let same = one_box_list (measures_in i s.parts) i.own_height s.lefts s.flow_boxes t.flow_boxes a.are_flow_boxes there in
    λ n. record { parts = parts n; lefts = lefts n; flow_boxes = same n }
