-- The lines of a box, once they are laid, are those of the box, and lie near.
use Rattle.std.proofs.Common.{◌≡◌, ℕ, ◌+◌, ◌*◌, ◌<◌, ◌≤◌, true, false, ℤ, pos, ◌+ℤ◌, List, length, All, refl, ap, ◌∙◌, arith, subst}
use Rattle.std.proofs.lemmas.Int.{ints}
use Rattle.std.proofs.lemmas.List.Elements.{All-weaker}
use Rattle.lay_units.specs.Units.{IsPosition, IsNear}
use Rattle.lay_units.specs.declared.length.Unit.{Unit as Length}
use Rattle.lay_floats.specs.declared.placed.Placed.{Placed}
use Rattle.lay_floats.specs.Within.{BoxWithin, IsWithin}
use Rattle.lay_lines.specs.Content.LineContents.{lines_weight}
use Rattle.lay_lines.specs.Lines.{AreLines, LinesValue, LinesWithin, growth}
use Rattle.lay_flow.specs.declared.blocks.flow_box.FlowBox.{FlowBox}
use Rattle.lay_flow.specs.declared.blocks.flow_box.FlowKind.{FlowKind}
use Rattle.lay_flow.specs.declared.blocks.flow_box.FlowKind.TheVariants.{Block as block, Lines as lines, Solid as solid, Float as float, LineFloat as line_float, Inline as inline}
use Rattle.lay_flow.specs.Blocks.Boxes.{box_at}
use Rattle.lay_flow.specs.Blocks.Lengths.{length_at}
use Rattle.lay_flow.specs.Blocks.BlockFloats.{content_of, line_content_of}
use Rattle.lay_flow.specs.Blocks.BlockPositions.{is_lines}
use Rattle.lay_flow.specs.Blocks.BlockSizes.{IsBlockInset}
use Rattle.lay_flow.specs.Blocks.FlowBoxes.{AreFlowBoxes}
use Rattle.lay_flow.specs.Blocks.MarginRuns.{block_at, block_of}
use Rattle.lay_flow.specs.Blocks.Weights.{weight, box_weight}
use Rattle.lay_flow.specs.Pass.Bounds.{IsMarkNear, reach}
use Rattle.lay_flow.proofs.BlocksLemmas.FlowBoxFacts.{block_fits}
use Rattle.lay_flow.proofs.PlaceSteps.{lines_wider, wider}
use Rattle.lay_flow.proofs.BlocksLemmas.Truths.{true_false}
use Rattle.lay_flow.proofs.BlocksLemmas.WeightFacts.{light_at, weight_next}

lines_weigh : (kind : FlowKind) → is_lines (block_of kind).inside ≡ true → box_weight kind ≡ 1 + lines_weight (line_content_of kind)
lines_weigh (block b) e = absurd (true_false false e refl)
lines_weigh (lines l) e = refl
lines_weigh (solid b) e = absurd (true_false false e refl)
lines_weigh (float b) e = absurd (true_false false e refl)
lines_weigh (line_float b) e = absurd (true_false false e refl)
lines_weigh inline e = absurd (true_false false e refl)

-- the top of lines
top_within : (w : ℕ) (mark edge top : ℤ) → IsMarkNear w mark → IsBlockInset edge → top ≡ mark +ℤ edge → IsWithin (pos (2251799813685248 + 68719476736 * w + 10737418240)) top
top_within w mark edge top near inset e = let a = near.0 in let b = near.1 in let c = inset.0 in let d = inset.1 in (omega (arith, ints, a, c, e), omega (arith, ints, b, d, e))

within_near : (w : ℕ) (v : ℤ) → w ≤ 16711680 → IsWithin (pos (2251799813685248 + 68719476736 * w + 10737418240)) v → IsNear v
within_near w v light near = let a = near.0 in let b = near.1 in (omega (arith, ints, light, a), omega (arith, ints, light, b))

reaches : (w v lw : ℕ) → v ≡ w + (1 + lw) → 2251799813685248 + 68719476736 * w + 10737418240 + 68719476736 * lw ≤ 2251799813685248 + 68719476736 * v
reaches w v lw e = omega (arith, e)

pub mark_position : (w : ℕ) (v : ℤ) → w ≤ 16711680 → IsMarkNear w v → IsPosition v
mark_position w v light near = let a = near.0 in let b = near.1 in (omega (arith, ints, light, a), omega (arith, ints, light, b))

pub inset_position : (v : ℤ) → IsBlockInset v → IsPosition v
inset_position v inset = let a = inset.0 in let b = inset.1 in (omega (arith, ints, a), omega (arith, ints, b))

-- all that stands before is near
pub floats_near : (boxes : List FlowBox) → AreFlowBoxes boxes → (k : ℕ) → k ≤ length boxes → (floats : List Placed) → All (BoxWithin (reach (weight boxes k))) floats → All (BoxWithin (pos 1152921504606846976)) floats
floats_near boxes input k le floats all =
    let light = light_at boxes input k le in
    All-weaker (BoxWithin (reach (weight boxes k))) (BoxWithin (pos 1152921504606846976)) (λ f b. wider (reach (weight boxes k)) (pos 1152921504606846976) f (omega (arith, ints, light)) b) floats all

module _ (boxes : List FlowBox) (input : AreFlowBoxes boxes) (marks : List Length) (k : ℕ) (within : k < length boxes) (near : IsMarkNear (weight boxes k) (length_at marks k))
    (top : ℤ) (top_is : top ≡ length_at marks k +ℤ (block_at boxes k).edge_top.0) where
  light : weight boxes k ≤ 16711680
  light = light_at boxes input k (omega (arith, within))

  here : IsWithin (pos (2251799813685248 + 68719476736 * weight boxes k + 10737418240)) top
  here = top_within (weight boxes k) (length_at marks k) (block_at boxes k).edge_top.0 top near (block_fits boxes input k within).edge_top top_is

  pub top_near : IsNear top
  top_near = within_near (weight boxes k) top light here

  module _ (holds : is_lines (block_at boxes k).inside ≡ true) (floats : List Placed) (all : All (BoxWithin (reach (weight boxes k))) floats) (b : FlowBox) (b_is : b ≡ box_at boxes k) (v : LinesValue)
      (laid : (r : ℕ) → 1125899906842624 ≤ r → r ≤ 1152921504606846976 → IsWithin (pos r) top → All (BoxWithin (pos r)) floats → LinesWithin (pos (r + growth (line_content_of b.kind))) v) where
    pub laid_near : LinesWithin (reach (weight boxes (k + 1))) v
    laid_near =
        let w : ℕ = weight boxes k in
        let small = light in
        let r : ℕ = 2251799813685248 + 68719476736 * w + 10737418240 in
        let content = line_content_of (box_at boxes k).kind in
        let laid' = subst (λ (b : FlowBox). LinesWithin (pos (r + growth (line_content_of b.kind))) v) b_is
        (laid r (omega arith) (omega (arith, small)) here (All-weaker (BoxWithin (reach w)) (BoxWithin (pos r)) (λ f b. wider (reach w) (pos r) f (omega (arith, ints)) b) floats all)) in
        let e = weight_next boxes k ∙ ap (λ (n : ℕ). w + n) (lines_weigh (box_at boxes k).kind holds) in
        let le = reaches w (weight boxes (k + 1)) (lines_weight content) e in
        let grows : growth content ≡ 68719476736 * lines_weight content = refl in
        lines_wider (pos (r + growth content)) (reach (weight boxes (k + 1))) v (omega (arith, ints, le, grows)) laid'

    pub end_near : IsNear v.end.0
    end_near =
        let end = laid_near.end in let a = end.0 in let b = end.1 in
        let small = light_at boxes input (k + 1) (omega (arith, within)) in
        (omega (arith, ints, a, small), omega (arith, ints, b, small))

    pub laid_lines : AreLines (line_content_of b.kind) (content_of b.kind).left (content_of b.kind).right top floats v
        → AreLines (line_content_of (box_at boxes k).kind) (content_of (box_at boxes k).kind).left (content_of (box_at boxes k).kind).right (length_at marks k +ℤ (block_at boxes k).edge_top.0) floats v
    laid_lines are =
        subst (λ (t : ℤ). AreLines (line_content_of (box_at boxes k).kind) (content_of (box_at boxes k).kind).left (content_of (box_at boxes k).kind).right t floats v) top_is
        (subst (λ (b : FlowBox). AreLines (line_content_of b.kind) (content_of b.kind).left (content_of b.kind).right top floats v) b_is are)
