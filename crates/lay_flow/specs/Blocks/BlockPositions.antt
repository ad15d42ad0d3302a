-- Positions and heights of the blocks of one block formatting context (CSS 2.2, 8.3.1, 9.4.1, 10.6.3, 10.6.7 and
-- 10.7). Positions are counted downward from the top border edge of the context's own box.
--
-- A run of margins starts at the bottom of what stands before it, and reaches from there as far as its margins
-- collapse to. A box stands at the end of the run of its top margin. One that is collapsed through has no height
-- and may stand higher: where its parent does, if the run has the parent's top margin, and else where it would
-- stand if it had a bottom border, that is, where the margins before its own bottom margin collapse to.
--
-- For example, a root has three children. The first is 10 px high with a bottom margin of 20 px, the second is empty with
-- a top margin of 10 px and a bottom margin of -30 px, and the third is 10 px high. The run of 20, 10 and -30 starts
-- at 10 px and ends at 10 + 20 - 30 = 0 px, and there the third child stands. The second stands at 10 + 20 = 30 px.
-- The root reaches to the bottom of the third child: it is 10 px high.
use Rattle.std.specs.Prelude.{ℕ, zero, suc, ◌≡◌, ◌<◌, ◌&&◌, Bool, true, false, ℤ, pos}
use Rattle.std.specs.Prelude.{◌+ℤ◌, ◌-ℤ◌, List, length, if◌then◌else◌, Option, Some, None}
use Rattle.lay_flow.specs.declared.blocks.flow_box.FlowBox.{FlowBox}
use Rattle.lay_flow.specs.Blocks.Boxes.{parent_at}
use Rattle.lay_units.specs.Units.{clamp_size_of}
use Rattle.lay_units.specs.declared.length.Unit.{Unit as Length}
use Rattle.lay_units.specs.declared.records.Len.{Len}
use Rattle.lay_units.specs.declared.records.Len.TheVariants.{Auto as auto, Of as of}
use Rattle.lay_heights.specs.declared.auto_height.FlowEnds.{FlowEnds}
use Rattle.lay_heights.specs.AutoHeights.{auto_height_of, root_height_of}
use Rattle.lay_heights.specs.MinMax.{with_min_max_of}
use Rattle.lay_margins.specs.Collapse.{collapse}
use Rattle.lay_flow.specs.declared.blocks.block.Block.{Block}
use Rattle.lay_flow.specs.declared.blocks.block.Inside.{Inside}
use Rattle.lay_flow.specs.declared.blocks.block.Inside.TheVariants.{Blocks as blocks_inside, Lines as lines_inside, Solid as solid_inside}
use Rattle.lay_flow.specs.Blocks.Lengths.{length_at}
use Rattle.lay_flow.specs.Blocks.BlockLayout.{BlockLayout}
use Rattle.lay_flow.specs.Blocks.Children.{last_child, flag_at}
use Rattle.lay_flow.specs.Blocks.MarginRuns.{Runs, HasRuns, margins, has_top, block_at, run_at, parts_tops, joins_bottom, run_before}

-- where a run starts that follows the box: at its bottom border edge, or, where the box is collapsed through,
-- where the run of its margins starts
abbrev pub start_below : BlockLayout → ℕ → ℤ
start_below y s =
    if flag_at y.runs.through s then length_at y.places.starts s else (length_at y.places.marks s +ℤ length_at y.places.heights s)

-- where the run starts that ends at the place (p, m) of the sequence of margins
abbrev pub start_before : List FlowBox → BlockLayout → ℕ → ℕ → ℤ
start_before boxes y p m = after (last_child boxes p m)
  where
    after : Option ℕ → ℤ
    after None = if parts_tops boxes p then (length_at y.places.marks p +ℤ (block_at boxes p).edge_top.0) else length_at y.places.starts p
    after (Some s) = start_below y s

-- the margins between the start of its run and its top border edge: those before its bottom margin, where the box is
-- collapsed through, and else all
abbrev pub margins_above : List FlowBox → Runs → ℕ → List ℤ
margins_above boxes r k = margins (if flag_at r.through k then run_before boxes r k (length boxes) else run_at r.top_runs k)

-- A box with clearance begins a run. That starts where it has to so that the box stands at its clear edge.
abbrev pub start_of : List FlowBox → BlockLayout → ℕ → ℤ
start_of boxes y zero = pos 0
start_of boxes y (suc k) =
    if flag_at y.runs.clears (suc k) then length_at y.clear_edges (suc k) -ℤ collapse (margins_above boxes y.runs (suc k))
    else start_before boxes y (parent_at boxes (suc k)) (suc k)

-- the run of the box's top margin has its parent's top margin
abbrev pub meets_parents_top : List FlowBox → Runs → ℕ → Bool
meets_parents_top boxes r k = has_top (parent_at boxes k) (run_at r.before_tops k)

abbrev pub mark_of : List FlowBox → BlockLayout → ℕ → ℤ
mark_of boxes y zero = pos 0
mark_of boxes y (suc k) =
    if flag_at y.runs.through (suc k) && meets_parents_top boxes y.runs (suc k) then length_at y.places.marks (parent_at boxes (suc k))
    else length_at y.places.starts (suc k) +ℤ collapse (margins_above boxes y.runs (suc k))

-- the top edge of the content of the box
abbrev pub content_top : List FlowBox → BlockLayout → ℕ → Length
content_top boxes y k = record { 0 = length_at y.places.marks k +ℤ (block_at boxes k).edge_top.0 }

-- the bottom edge of the bottom margin of the box, collapsed with those that it adjoins
abbrev pub margin_bottom : BlockLayout → ℕ → Length
margin_bottom y c = record { 0 = start_below y c +ℤ collapse (margins (run_at y.runs.to_bottoms c)) }

-- where the lines of the box end, if it holds lines
abbrev pub line_end : Inside → Length → ℤ → Option Length
line_end blocks_inside top depth = None
line_end lines_inside top depth = Some (record { 0 = top.0 +ℤ depth })
line_end solid_inside top depth = None

abbrev pub line_end_of : List FlowBox → BlockLayout → ℕ → Option Length
line_end_of boxes y k = line_end (block_at boxes k).inside (content_top boxes y k) (length_at y.extents.depths k)

-- where the content of the box may end (10.6.3): with its last line, with the bottom margin of its last child, where that
-- doesn't adjoin the box's own, and with the border of that child
abbrev pub ends_of : List FlowBox → BlockLayout → ℕ → FlowEnds
ends_of boxes y k = after (last_child boxes k (length boxes))
  where
    after : Option ℕ → FlowEnds
    after None = record { top = content_top boxes y k; line = line_end_of boxes y k; margin = None; border = None }
    after (Some c) = record {
      top = content_top boxes y k;
      line = line_end_of boxes y k;
      margin = if joins_bottom boxes y.runs k then None else Some (margin_bottom y c);
      border = Some (record { 0 = start_below y c });
    }

-- where the last line in the context's own box ends, or the last margin in it
abbrev pub root_end : List FlowBox → BlockLayout → Length
root_end boxes y = after (line_end_of boxes y 0) (last_child boxes 0 (length boxes))
  where
    after : Option Length → Option ℕ → Length
    after (Some line) child = line
    after None None = content_top boxes y 0
    after None (Some c) = margin_bottom y c

-- the auto height of the content of the box: that of the context's own box by 10.6.7, and of others by 10.6.3
abbrev pub content_height : List FlowBox → BlockLayout → ℕ → ℤ
content_height boxes y zero = root_height_of (content_top boxes y 0) (root_end boxes y) y.extents.floats
content_height boxes y (suc k) = auto_height_of (ends_of boxes y (suc k))

abbrev pub given_or_auto : Len → ℤ → ℤ
given_or_auto auto height = height
given_or_auto (of given) height = given.0

abbrev pub is_solid : Inside → Bool
is_solid blocks_inside = false
is_solid lines_inside = false
is_solid solid_inside = true

abbrev pub is_lines : Inside → Bool
is_lines blocks_inside = false
is_lines lines_inside = true
is_lines solid_inside = false

-- what is in the box is no part of the blocks, and its depth is known once the box stands
abbrev pub is_placed : Inside → Bool
is_placed blocks_inside = false
is_placed lines_inside = true
is_placed solid_inside = true

-- the height of what is in a box: of lines their depth
abbrev pub held_height : Inside → ℤ → ℤ → ℤ
held_height blocks_inside depth content = content
held_height lines_inside depth content = depth
held_height solid_inside depth content = content

-- where what is in a box ends
abbrev pub held_end : Inside → ℤ → ℤ → ℤ → ℤ
held_end blocks_inside top depth end = end
held_end lines_inside top depth end = top +ℤ depth
held_end solid_inside top depth end = end

-- the height of a border box, where that of its content is given if it is auto (10.7). That of a solid box is its extent:
-- how far its bottom border edge lies below its mark.
abbrev pub border_height : Block → ℤ → ℤ → ℤ
border_height b extent content =
    if is_solid b.inside then extent
    else b.edge_top.0 +ℤ with_min_max_of (given_or_auto b.height (clamp_size_of content)) b.min_height.0 b.max_height +ℤ b.edge_bottom.0

abbrev pub height_of : List FlowBox → BlockLayout → ℕ → ℤ
height_of boxes y k =
    if flag_at y.runs.through k then pos 0
    else border_height (block_at boxes k) (length_at y.extents.depths k) (content_height boxes y k)

-- these are the positions and the heights by the runs, the extents and the clear edges
pub record HasPositions (boxes : List FlowBox) (y : BlockLayout) : Type 0 where
  pub starts_length : length y.places.starts ≡ length boxes
  pub marks_length : length y.places.marks ≡ length boxes
  pub heights_length : length y.places.heights ≡ length boxes
  pub start : (k : ℕ) → k < length boxes → length_at y.places.starts k ≡ start_of boxes y k
  pub mark : (k : ℕ) → k < length boxes → length_at y.places.marks k ≡ mark_of boxes y k
  pub height : (k : ℕ) → k < length boxes → length_at y.places.heights k ≡ height_of boxes y k

pub record IsBlockLayout (boxes : List FlowBox) (y : BlockLayout) : Type 0 where
  pub has_runs : HasRuns boxes y.runs
  pub has_positions : HasPositions boxes y
