-- Where the content of a box ends, in one number: the auto heights of 10.6.3 and 10.6.7 reach down to it.
use Rattle.std.proofs.Common.{◌≡◌, ℕ, zero, suc, ◌<◌, Bool, true, false, ℤ, pos, ◌+ℤ◌, ◌-ℤ◌, List, length, refl, ap, arith, Option, Some, None, if◌then◌else◌}
use Rattle.std.proofs.lemmas.Int.{ints}
use Rattle.lay_flow.specs.declared.blocks.flow_box.FlowBox.{FlowBox}
use Rattle.lay_heights.specs.AutoHeights.{root_height_of}
use Rattle.lay_margins.specs.Collapse.{collapse}
use Rattle.lay_flow.specs.declared.blocks.block.Block.{Block}
use Rattle.lay_flow.specs.Blocks.Lengths.{length_at}
use Rattle.lay_flow.specs.Blocks.Children.{last_child}
use Rattle.lay_flow.specs.Blocks.MarginRuns.{margins, block_at, run_at, joins_bottom}
use Rattle.lay_flow.specs.declared.blocks.block.Inside.{Inside}
use Rattle.lay_flow.specs.declared.blocks.block.Inside.TheVariants.{Blocks as blocks_inside, Lines as lines_inside, Solid as solid_inside}
use Rattle.lay_flow.specs.Blocks.BlockLayout.{BlockLayout}
use Rattle.lay_flow.specs.Blocks.BlockPositions.{line_end, line_end_of, start_below, content_top, content_height, border_height, is_lines, is_placed, is_solid}
use Rattle.lay_flow.specs.Blocks.BlockPositions.{held_end, held_height}
use Rattle.lay_flow.proofs.BlocksLemmas.Truths.{true_false, true_or}

abbrev pub margin_end : List FlowBox → BlockLayout → ℕ → ℤ
margin_end boxes y k = below (last_child boxes k (length boxes))
  where
    below : Option ℕ → ℤ
    below None = length_at y.places.marks k +ℤ (block_at boxes k).edge_top.0
    below (Some c) =
        if joins_bottom boxes y.runs k then start_below y c
        else start_below y c +ℤ collapse (margins (run_at y.runs.to_bottoms c))

-- its lines end before its margins do
abbrev pub content_bottom : List FlowBox → BlockLayout → ℕ → ℤ
content_bottom boxes y k = held_end (block_at boxes k).inside (length_at y.places.marks k +ℤ (block_at boxes k).edge_top.0) (length_at y.extents.depths k) (margin_end boxes y k)

pub content_inner : (boxes : List FlowBox) (y : BlockLayout) (p : ℕ) → 0 < p
    → content_height boxes y p ≡ content_bottom boxes y p -ℤ (length_at y.places.marks p +ℤ (block_at boxes p).edge_top.0)
content_inner boxes y zero low = absurd (omega (arith, low))
content_inner boxes y (suc k) low = by_inside (block_at boxes (suc k)).inside refl
  where
    none : (v : ℤ) → pos 0 ≡ v -ℤ v
    none v = omega (arith, ints)

    line_is : (inside : Inside) → (block_at boxes (suc k)).inside ≡ inside → line_end_of boxes y (suc k) ≡ line_end inside (content_top boxes y (suc k)) (length_at y.extents.depths (suc k))
    line_is inside i = ap (λ (inside : Inside). line_end inside (content_top boxes y (suc k)) (length_at y.extents.depths (suc k))) i

    by_joins : (inside : Inside) (c : ℕ) (b : Bool) → (block_at boxes (suc k)).inside ≡ inside → last_child boxes (suc k) (length boxes) ≡ Some c → joins_bottom boxes y.runs (suc k) ≡ b → content_height boxes y (suc k) ≡ content_bottom boxes y (suc k) -ℤ (length_at y.places.marks (suc k) +ℤ (block_at boxes (suc k)).edge_top.0)
    by_joins blocks_inside c true i e joined = let l = line_is blocks_inside i in rw (e, joined, l, i) refl
    by_joins blocks_inside c false i e parted = let l = line_is blocks_inside i in rw (e, parted, l, i) refl
    by_joins lines_inside c b i e joined = let l = line_is lines_inside i in rw (e, l, i) refl
    by_joins solid_inside c true i e joined = let l = line_is solid_inside i in rw (e, joined, l, i) refl
    by_joins solid_inside c false i e parted = let l = line_is solid_inside i in rw (e, parted, l, i) refl

    go : (inside : Inside) (o : Option ℕ) → (block_at boxes (suc k)).inside ≡ inside → last_child boxes (suc k) (length boxes) ≡ o → content_height boxes y (suc k) ≡ content_bottom boxes y (suc k) -ℤ (length_at y.places.marks (suc k) +ℤ (block_at boxes (suc k)).edge_top.0)
    go blocks_inside None i e = let l = line_is blocks_inside i in rw (e, l, i) (none (length_at y.places.marks (suc k) +ℤ (block_at boxes (suc k)).edge_top.0))
    go lines_inside None i e = let l = line_is lines_inside i in rw (e, l, i) refl
    go solid_inside None i e = let l = line_is solid_inside i in rw (e, l, i) (none (length_at y.places.marks (suc k) +ℤ (block_at boxes (suc k)).edge_top.0))
    go inside (Some c) i e = by_joins inside c (joins_bottom boxes y.runs (suc k)) i e refl

    by_inside : (inside : Inside) → (block_at boxes (suc k)).inside ≡ inside → content_height boxes y (suc k) ≡ content_bottom boxes y (suc k) -ℤ (length_at y.places.marks (suc k) +ℤ (block_at boxes (suc k)).edge_top.0)
    by_inside inside i = go inside (last_child boxes (suc k) (length boxes)) i refl

pub content_root : (boxes : List FlowBox) (y : BlockLayout)
    → content_height boxes y 0 ≡ root_height_of (content_top boxes y 0) (record { 0 = content_bottom boxes y 0 }) y.extents.floats
content_root boxes y = go (block_at boxes 0).inside (last_child boxes 0 (length boxes)) refl refl
  where
    go : (inside : Inside) (o : Option ℕ) → (block_at boxes 0).inside ≡ inside → last_child boxes 0 (length boxes) ≡ o
        → content_height boxes y 0 ≡ root_height_of (content_top boxes y 0) (record { 0 = content_bottom boxes y 0 }) y.extents.floats
    go blocks_inside None i e = rw (i, e) refl
    go blocks_inside (Some c) i e = rw (i, e) refl
    go lines_inside None i e = rw i refl
    go lines_inside (Some c) i e = rw i refl
    go solid_inside None i e = rw (i, e) refl
    go solid_inside (Some c) i e = rw (i, e) refl

-- of a box that doesn't hold lines
pub content_margin : (boxes : List FlowBox) (y : BlockLayout) (p : ℕ) → is_lines (block_at boxes p).inside ≡ false → content_bottom boxes y p ≡ margin_end boxes y p
content_margin boxes y p e = go (block_at boxes p).inside refl e
  where
    go : (inside : Inside) → (block_at boxes p).inside ≡ inside → is_lines inside ≡ false → content_bottom boxes y p ≡ margin_end boxes y p
    go blocks_inside i e = rw i refl
    go lines_inside i e = absurd (true_false true refl e)
    go solid_inside i e = rw i refl

-- the extent of a box that isn't solid doesn't count
pub same_border_height : (b : Block) (e f content : ℤ) → (is_solid b.inside ≡ true → e ≡ f) → border_height b e content ≡ border_height b f content
same_border_height b e f content same = true_or (is_solid b.inside) (border_height b e content ≡ border_height b f content)
    (λ solid. let s = same solid in rw (solid, s) refl)
    (λ flow. rw flow refl)

-- the height of what is in a box is that from the top of it to its end
pub held_between : (inside : Inside) (top depth end : ℤ) → held_height inside depth (end -ℤ top) ≡ held_end inside top depth end -ℤ top
held_between blocks_inside top depth end = refl
held_between lines_inside top depth end = between top depth
  where
    between : (a b : ℤ) → b ≡ (a +ℤ b) -ℤ a
    between a b = omega (arith, ints)
held_between solid_inside top depth end = refl

pub held_same : (inside : Inside) (s t d e m n : ℤ) → s ≡ t → (is_placed inside ≡ true → d ≡ e) → m ≡ n → held_end inside s d m ≡ held_end inside t e n
held_same blocks_inside s t d e m n top depth end = end
held_same lines_inside s t d e m n top depth end = let same = depth refl in λ i. top i +ℤ same i
held_same solid_inside s t d e m n top depth end = end
