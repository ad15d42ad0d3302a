-- What follows from the kinds of blocks.
use Rattle.std.proofs.Common.{◌≡◌, ℕ, zero, suc, ◌&&◌, not, Bool, true, false, ℤ, pos, negsuc, List, refl, ap, arith, inl, inr, ◌⊎◌}
use Rattle.lay_flow.specs.declared.blocks.flow_box.FlowBox.{FlowBox}
use Rattle.lay_units.specs.declared.records.Len.{Len}
use Rattle.lay_units.specs.declared.records.Len.TheVariants.{Auto as auto, Of as of}
use Rattle.lay_flow.specs.declared.blocks.block.Block.{Block}
use Rattle.lay_flow.specs.declared.blocks.block.Inside.{Inside}
use Rattle.lay_flow.specs.declared.blocks.block.Inside.TheVariants.{Blocks as blocks_inside, Lines as lines_inside, Solid as solid_inside}
use Rattle.lay_flow.specs.Blocks.MarginRuns.{block_at, is_zero, is_auto_size, is_auto_or_zero, is_blocks, parts_tops, may_join_bottoms, may_collapse_through}
use Rattle.lay_flow.specs.Blocks.BlockPositions.{is_lines, is_placed, is_solid}
use Rattle.lay_flow.proofs.BlocksLemmas.Truths.{true_false}

zero_is : (v : ℤ) → is_zero v ≡ true → v ≡ pos 0
zero_is (pos n) e = let h : n ≡ 0 = grind (arith, e) in ap pos h
zero_is (negsuc n) e = absurd (true_false false e refl)

pub no_edge : (boxes : List FlowBox) (p : ℕ) → parts_tops boxes p ≡ false → (block_at boxes p).edge_top.0 ≡ pos 0
no_edge boxes zero e = absurd (true_false true refl e)
no_edge boxes (suc p) e = zero_is (block_at boxes (suc p)).edge_top.0 (not_not (is_zero (block_at boxes (suc p)).edge_top.0) e)
  where
    not_not : (b : Bool) → not b ≡ false → b ≡ true
    not_not true e = refl
    not_not false e = absurd (true_false true refl e)

-- a box of auto height without an edge above its content may be collapsed through where its bottom margin may adjoin
-- that of its last child
pub joined_passes : (boxes : List FlowBox) (p : ℕ) → parts_tops boxes p ≡ false → may_join_bottoms (block_at boxes p) ≡ true → may_collapse_through (block_at boxes p) ≡ true
joined_passes boxes zero e j = absurd (true_false true refl e)
joined_passes boxes (suc p) e j = let b : Block = block_at boxes (suc p) in
    all_true (is_blocks b.inside) (is_zero b.edge_top.0) (is_zero b.edge_bottom.0) (is_zero b.min_height.0) b.height e j
  where
    all_true : (a b c d : Bool) (h : Len) → not b ≡ false → (a && c && d && is_auto_size h) ≡ true → (a && b && c && d && is_auto_or_zero h) ≡ true
    all_true a b c d auto e j = grind (arith, e, j)
    all_true a b c d (of h) e j = absurd (grind (arith, j))

-- a box whose bottom margin may adjoin that of its last child holds blocks
pub joins_flow : (b : Block) → may_join_bottoms b ≡ true → is_placed b.inside ≡ false
joins_flow b may = by_inside b.inside may
  where
    by_inside : (inside : Inside) → may_join_bottoms (record b { inside = inside }) ≡ true → is_placed inside ≡ false
    by_inside blocks_inside e = refl
    by_inside lines_inside e = absurd (true_false false e refl)
    by_inside solid_inside e = absurd (true_false false e refl)

pub solid_placed : (inside : Inside) → is_solid inside ≡ true → is_placed inside ≡ true
solid_placed blocks_inside e = e
solid_placed lines_inside e = refl
solid_placed solid_inside e = refl

pub lines_placed : (inside : Inside) → is_lines inside ≡ true → is_placed inside ≡ true
lines_placed blocks_inside e = e
lines_placed lines_inside e = refl
lines_placed solid_inside e = refl

pub placed_none : (inside : Inside) → is_placed inside ≡ false → (is_lines inside ≡ false) × (is_solid inside ≡ false)
placed_none blocks_inside e = (refl, refl)
placed_none lines_inside e = absurd (true_false true refl e)
placed_none solid_inside e = absurd (true_false true refl e)

pub placed_one : (inside : Inside) → is_placed inside ≡ true → (is_lines inside ≡ true) ⊎ (is_solid inside ≡ true)
placed_one blocks_inside e = absurd (true_false false e refl)
placed_one lines_inside e = inl refl
placed_one solid_inside e = inr refl

pub lines_not_solid : (inside : Inside) → is_lines inside ≡ true → is_solid inside ≡ false
lines_not_solid blocks_inside e = refl
lines_not_solid lines_inside e = refl
lines_not_solid solid_inside e = absurd (true_false false e refl)

pub solid_not_lines : (inside : Inside) → is_solid inside ≡ true → is_lines inside ≡ false
solid_not_lines blocks_inside e = refl
solid_not_lines lines_inside e = absurd (true_false false e refl)
solid_not_lines solid_inside e = refl

pub blocks_not_placed : (inside : Inside) → is_blocks inside ≡ true → is_placed inside ≡ false
blocks_not_placed blocks_inside e = refl
blocks_not_placed lines_inside e = absurd (true_false false e refl)
blocks_not_placed solid_inside e = absurd (true_false false e refl)
