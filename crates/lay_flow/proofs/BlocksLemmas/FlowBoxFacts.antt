-- What is known of the boxes of a context, as margins and floats see them.
use Rattle.std.proofs.Common.{◌≡◌, ℕ, ◌<◌, ◌≤◌, ℤ, pos, true, false, List, length, refl, sym, ◌∙◌, arith, inl, inr, Some, None, zero, suc, subst}
use Rattle.std.proofs.lemmas.Bool.{cases_lt}
use Rattle.std.proofs.lemmas.Int.{ints}
use Rattle.std.proofs.lemmas.Option.{none-some}
use Rattle.lay_doc.specs.Tree.{IsTree}
use Rattle.lay_floats.specs.declared.requests.Side.{Side}
use Rattle.lay_floats.specs.Within.{IsWithin}
use Rattle.lay_flow.specs.declared.blocks.flow_box.FlowBox.{FlowBox}
use Rattle.lay_flow.specs.declared.blocks.flow_box.BlockBox.{BlockBox}
use Rattle.lay_flow.specs.declared.blocks.flow_box.FlowKind.{FlowKind}
use Rattle.lay_flow.specs.declared.blocks.block.Inside.{Inside}
use Rattle.lay_flow.specs.declared.blocks.block.Inside.TheVariants.{Blocks as blocks_inside, Lines as lines_inside}
use Rattle.lay_floats.specs.declared.requests.Clear.TheVariants.{None as clear_none}
use Rattle.lay_flow.specs.declared.blocks.flow_box.FlowKind.TheVariants.{Block as block, Lines as lines, Solid as solid, Float as float, LineFloat as line_float, Inline as inline}
use Rattle.lay_flow.specs.declared.blocks.flow_box.Across.{Across}
use Rattle.lay_flow.specs.Blocks.Boxes.{box_at, parent_at, parents_of}
use Rattle.lay_flow.specs.Blocks.FlowBoxes.{AreFlowBoxes, BlockBoxFits, IsFlowTree, KindFits, is_flow_block, is_in_lines, may_hold}
use Rattle.lay_flow.specs.Blocks.BlockSizes.{BlockFits}
use Rattle.lay_flow.specs.Blocks.BlockFloats.{content_of, no_shape, shape_of, shape_at}
use Rattle.lay_flow.specs.Blocks.BlockPositions.{is_placed, is_solid}
use Rattle.lay_flow.specs.Blocks.MarginRuns.{block_of, block_at, block_with, no_block}
use Rattle.lay_flow.specs.Blocks.BlockSizes.{ShapeFits}
use Rattle.lay_flow.proofs.BlocksLemmas.BoxTrees.{parent_before, root_parent}
use Rattle.lay_flow.proofs.BlocksLemmas.BlockKinds.{solid_placed}
use Rattle.lay_flow.proofs.BlocksLemmas.Truths.{true_false}
use Rattle.lay_flow.specs.Blocks.MarginPlace.{IsAround}

block_box_fits : (b : BlockBox) (inside : Inside) → BlockBoxFits b → BlockFits (block_with b inside)
block_box_fits b inside fits = record {
  margin_top = fits.margin.top;
  margin_bottom = fits.margin.bottom;
  edge_top = fits.inset_top;
  edge_bottom = fits.inset_bottom;
  height = fits.height;
  min_height = fits.min_height;
}

no_block_fits : BlockFits no_block
no_block_fits = record {
  margin_top = (omega (arith, ints), omega (arith, ints));
  margin_bottom = (omega (arith, ints), omega (arith, ints));
  edge_top = (omega (arith, ints), omega (arith, ints));
  edge_bottom = (omega (arith, ints), omega (arith, ints));
  height = (omega (arith, ints), omega (arith, ints));
  min_height = (omega (arith, ints), omega (arith, ints));
}

pub kind_block_fits : (kind : FlowKind) → KindFits kind → BlockFits (block_of kind)
kind_block_fits (block b) fits = block_box_fits b blocks_inside fits
kind_block_fits (lines l) fits = block_box_fits l.block lines_inside fits
kind_block_fits (solid b) fits = record {
  margin_top = fits.margin.top;
  margin_bottom = fits.margin.bottom;
  edge_top = (omega (arith, ints), omega (arith, ints));
  edge_bottom = (omega (arith, ints), omega (arith, ints));
  height = (omega (arith, ints), omega (arith, ints));
  min_height = (omega (arith, ints), omega (arith, ints));
}
kind_block_fits (float b) fits = no_block_fits
kind_block_fits (line_float b) fits = no_block_fits
kind_block_fits inline fits = no_block_fits

pub block_fits : (boxes : List FlowBox) → AreFlowBoxes boxes → (k : ℕ) → k < length boxes → BlockFits (block_at boxes k)
block_fits boxes are k within = kind_block_fits (box_at boxes k).kind (are.fits k within)

-- content edges that are within their bounds
pub record AcrossFits (a : Across) : Type 0 where
  pub left : IsWithin (pos 1125899906842624) a.left.0
  pub right : IsWithin (pos 1125899906842624) a.right.0

pub content_fits : (kind : FlowKind) → KindFits kind → AcrossFits (content_of kind)
content_fits (block b) fits = record { left = fits.left; right = fits.right }
content_fits (lines l) fits = record { left = fits.left; right = fits.right }
content_fits (solid b) fits = record { left = (omega (arith, ints), omega (arith, ints)); right = (omega (arith, ints), omega (arith, ints)) }
content_fits (float b) fits = record { left = (omega (arith, ints), omega (arith, ints)); right = (omega (arith, ints), omega (arith, ints)) }
content_fits (line_float b) fits = record { left = (omega (arith, ints), omega (arith, ints)); right = (omega (arith, ints), omega (arith, ints)) }
content_fits inline fits = record { left = (omega (arith, ints), omega (arith, ints)); right = (omega (arith, ints), omega (arith, ints)) }

edge_within : (v : ℤ) → IsWithin (pos 562949953421312) v → IsWithin (pos 1125899906842624) v
edge_within v near = (omega (arith, ints, near.0), omega (arith, ints, near.1))

no_shape_fits : (around : Across) → AcrossFits around → ShapeFits (no_shape around)
no_shape_fits around out = record {
  width = (omega (arith, ints), omega (arith, ints));
  height = (omega (arith, ints), omega (arith, ints));
  left = out.left;
  right = out.right;
  x = (omega (arith, ints), omega (arith, ints));
}

kind_shape_fits : (around : Across) (kind : FlowKind) → AcrossFits around → KindFits kind → ShapeFits (shape_of around kind)
kind_shape_fits around (block b) out fits = record {
  width = (omega (arith, ints), omega (arith, ints));
  height = (omega (arith, ints), omega (arith, ints));
  left = out.left;
  right = out.right;
  x = edge_within b.x.0 fits.x;
}
kind_shape_fits around (lines l) out fits = record {
  width = (omega (arith, ints), omega (arith, ints));
  height = (omega (arith, ints), omega (arith, ints));
  left = out.left;
  right = out.right;
  x = edge_within l.block.x.0 fits.x;
}
kind_shape_fits around (solid b) out fits = record {
  width = (omega (arith, ints, fits.width.0), omega (arith, ints, fits.width.1));
  height = (omega (arith, ints, fits.height.0), omega (arith, ints, fits.height.1));
  left = out.left;
  right = out.right;
  x = edge_within b.x.0 fits.x;
}
kind_shape_fits around (float b) out fits = record {
  width = (omega (arith, ints, fits.width.0, fits.margin_left.0, fits.margin_right.0), omega (arith, ints, fits.width.1, fits.margin_left.1, fits.margin_right.1));
  height = (omega (arith, ints, fits.height.0, fits.margin_top.0, fits.margin_bottom.0), omega (arith, ints, fits.height.1, fits.margin_top.1, fits.margin_bottom.1));
  left = out.left;
  right = out.right;
  x = (omega (arith, ints), omega (arith, ints));
}
kind_shape_fits around (line_float b) out fits = no_shape_fits around out
kind_shape_fits around inline out fits = no_shape_fits around out

pub parent_in : (boxes : List FlowBox) → IsTree (parents_of boxes) → (k : ℕ) → k < length boxes → parent_at boxes k < length boxes
parent_in boxes tree zero within = let e = root_parent boxes tree in omega (arith, within, e)
parent_in boxes tree (suc k) within = let less = parent_before boxes tree (suc k) (omega arith) within in omega (arith, within, less)

pub shape_fits : (boxes : List FlowBox) → AreFlowBoxes boxes → (k : ℕ) → k < length boxes → ShapeFits (shape_at boxes k)
shape_fits boxes are k within =
    let p : ℕ = parent_at boxes k in
    kind_shape_fits (content_of (box_at boxes p).kind) (box_at boxes k).kind (content_fits (box_at boxes p).kind (are.fits p (parent_in boxes are.is_tree.tree k within))) (are.fits k within)

kind_float_block : (around : Across) (kind : FlowKind) (side : Side) → (shape_of around kind).float ≡ Some side → block_of kind ≡ no_block
kind_float_block around (block b) side e = absurd (none-some side e)
kind_float_block around (solid b) side e = absurd (none-some side e)
kind_float_block around (float b) side e = refl
kind_float_block around (lines l) side e = absurd (none-some side e)
kind_float_block around (line_float b) side e = refl
kind_float_block around inline side e = refl

-- a float is an empty block
pub float_block : (boxes : List FlowBox) (k : ℕ) (side : Side) → (shape_at boxes k).float ≡ Some side → block_at boxes k ≡ no_block
float_block boxes k side e = kind_float_block (content_of (box_at boxes (parent_at boxes k)).kind) (box_at boxes k).kind side e

kind_placed_flows : (around : Across) (kind : FlowKind) → is_placed (block_of kind).inside ≡ true → (shape_of around kind).float ≡ None
kind_placed_flows around (block b) e = refl
kind_placed_flows around (lines l) e = refl
kind_placed_flows around (solid b) e = refl
kind_placed_flows around (float b) e = absurd (true_false false e refl)
kind_placed_flows around (line_float b) e = refl
kind_placed_flows around inline e = refl

-- a solid box is no float, nor is one that holds lines
pub placed_flows : (boxes : List FlowBox) (k : ℕ) → is_placed (block_at boxes k).inside ≡ true → (shape_at boxes k).float ≡ None
placed_flows boxes k e = kind_placed_flows (content_of (box_at boxes (parent_at boxes k)).kind) (box_at boxes k).kind e

pub solid_flows : (boxes : List FlowBox) (k : ℕ) → is_solid (block_at boxes k).inside ≡ true → (shape_at boxes k).float ≡ None
solid_flows boxes k e = placed_flows boxes k (solid_placed (block_at boxes k).inside e)

kind_flows : (around : Across) (kind : FlowKind) → is_flow_block kind ≡ true → (shape_of around kind).float ≡ None
kind_flows around (block b) e = refl
kind_flows around (lines l) e = refl
kind_flows around (solid b) e = refl
kind_flows around (float b) e = absurd (true_false false e refl)
kind_flows around (line_float b) e = refl
kind_flows around inline e = refl

-- the context's own box is no float
pub root_flows : (boxes : List FlowBox) → IsFlowTree boxes → (shape_at boxes 0).float ≡ None
root_flows boxes are = kind_flows (content_of (box_at boxes (parent_at boxes 0)).kind) (box_at boxes 0).kind are.root

kind_not_solid : (kind : FlowKind) → is_flow_block kind ≡ true → is_solid (block_of kind).inside ≡ false
kind_not_solid (block b) e = refl
kind_not_solid (lines l) e = refl
kind_not_solid (solid b) e = absurd (true_false false e refl)
kind_not_solid (float b) e = refl
kind_not_solid (line_float b) e = refl
kind_not_solid inline e = refl

-- nor is it solid
pub root_not_solid : (boxes : List FlowBox) → IsFlowTree boxes → is_solid (block_at boxes 0).inside ≡ false
root_not_solid boxes are = kind_not_solid (box_at boxes 0).kind are.root

-- a float isn't the context's own box
pub positive_float : (boxes : List FlowBox) → IsFlowTree boxes → (k : ℕ) (side : Side) → (shape_at boxes k).float ≡ Some side → 0 < k
positive_float boxes are zero side e = absurd (none-some side (sym (root_flows boxes are) ∙ e))
positive_float boxes are (suc k) side e = omega arith

-- nor is a solid box
pub positive_solid : (boxes : List FlowBox) → IsFlowTree boxes → (k : ℕ) → is_solid (block_at boxes k).inside ≡ true → 0 < k
positive_solid boxes are zero e = absurd (true_false (is_solid (block_at boxes 0).inside) e (root_not_solid boxes are))
positive_solid boxes are (suc k) e = omega arith

kind_holder : (parent child : FlowKind) → may_hold parent child ≡ true → is_in_lines child ≡ false → is_placed (block_of parent).inside ≡ false
kind_holder (block b) child e out = refl
kind_holder (lines l) child e out = absurd (true_false (is_in_lines child) e out)
kind_holder (solid b) child e out = absurd (true_false false e refl)
kind_holder (float b) child e out = refl
kind_holder (line_float b) child e out = refl
kind_holder inline child e out = refl

kind_parent : (parent child : FlowKind) → may_hold parent child ≡ true → is_in_lines parent ≡ false
kind_parent (block b) child e = refl
kind_parent (lines l) child e = refl
kind_parent (solid b) child e = refl
kind_parent (float b) child e = refl
kind_parent (line_float b) child e = absurd (true_false false e refl)
kind_parent inline child e = absurd (true_false false e refl)

kind_unclear : (around : Across) (kind : FlowKind) → is_in_lines kind ≡ true → (shape_of around kind).clear ≡ clear_none
kind_unclear around (block b) e = absurd (true_false false e refl)
kind_unclear around (lines l) e = absurd (true_false false e refl)
kind_unclear around (solid b) e = absurd (true_false false e refl)
kind_unclear around (float b) e = absurd (true_false false e refl)
kind_unclear around (line_float b) e = refl
kind_unclear around inline e = refl

-- what stands in lines goes past no floats
pub in_lines_unclear : (boxes : List FlowBox) (k : ℕ) → is_in_lines (box_at boxes k).kind ≡ true → (shape_at boxes k).clear ≡ clear_none
in_lines_unclear boxes k e = kind_unclear (content_of (box_at boxes (parent_at boxes k)).kind) (box_at boxes k).kind e

-- a box that doesn't stand in lines stands in no box that holds lines, and in no solid box
pub around_holds : (boxes : List FlowBox) → IsFlowTree boxes → (fuel k j : ℕ) → k < fuel → 0 < k → k < length boxes → is_in_lines (box_at boxes k).kind ≡ false
    → j ≤ parent_at boxes k → IsAround boxes j k → is_placed (block_at boxes j).inside ≡ false
around_holds boxes are zero k j small positive within out le inside = absurd (omega (arith, small))
around_holds boxes are (suc fuel) k j small positive within out le inside =
    let p : ℕ = parent_at boxes k in
    let up = parent_before boxes are.tree k positive within in
    let holds = are.parent k positive within in
    elim (cases_lt j p) [
      | inl less ↦ around_holds boxes are fuel p j (omega (arith, up, small)) (omega (arith, less)) (omega (arith, up, within)) (kind_parent (box_at boxes p).kind (box_at boxes k).kind holds)
          (inside p less up) (λ i low high. inside i low (omega (arith, high, up)))
      | inr ge ↦ (let e : j ≡ p = omega (arith, le, ge) in subst (λ (j : ℕ). is_placed (block_at boxes j).inside ≡ false) (sym e) (kind_holder (box_at boxes p).kind (box_at boxes k).kind holds out))
    ]
