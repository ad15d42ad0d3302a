-- The boxes of one context as its block formatting context takes them (CSS 2.2, 9.4.1, 9.4.2 and 9.5). Each stands in its
-- nearest block container. A block box holds lines, where it contains inline-level boxes and something on a line of it is
-- seen; then its lines know the boxes in it, and place its floats. Without a seen line its inline boxes and texts take no room,
-- and its floats are like others. The box of an inner context floats, or stands in lines as an atomic box, or is solid: no
-- float of this context overlaps it. An anchor takes no room: it is an empty block, so that it stands where that would (9.6).
-- The others are blocks, and the context's own box is one. Horizontal positions are counted from the left border edge of the
-- context's own box.
use Rattle.std.specs.Prelude.{ℕ, zero, suc, ◌≡◌, ◌<◌, ◌+ℤ◌, ◌&&◌, Bool, true, false}
use Rattle.std.specs.Prelude.{List, length, nat_lt, Option, Some, None, if◌then◌else◌}
use Rattle.lay_units.specs.declared.length.Unit.{Unit as Length}
use Rattle.lay_units.specs.Lengths.{no_length}
use Rattle.lay_style.specs.declared.style_words.Float.{Float}
use Rattle.lay_style.specs.declared.style_words.Float.TheVariants as floating
use Rattle.lay_style.specs.declared.style_words.Clear.{Clear as ClearStyle}
use Rattle.lay_style.specs.declared.style_words.Clear.TheVariants as clear
use Rattle.lay_style.specs.ComputedStyle.{style_at}
use Rattle.lay_box_tree.specs.declared.box_role.Role.{Role}
use Rattle.lay_box_tree.specs.declared.box_role.Role.TheVariants as role
use Rattle.lay_box_tree.specs.declared.box_tree.BoxNode.{BoxNode}
use Rattle.lay_box_tree.specs.BoxColumns.{box_styles}
use Rattle.lay_box_tree.specs.Roles.{clear_at, is_inline_level, role_at}
use Rattle.lay_floats.specs.declared.requests.Side.{Side}
use Rattle.lay_floats.specs.declared.requests.Side.TheVariants as side
use Rattle.lay_floats.specs.declared.requests.Clear.{Clear as Cleared}
use Rattle.lay_floats.specs.declared.requests.Clear.TheVariants as sides
use Rattle.lay_flow.specs.declared.blocks.flow_box.Across.{Across}
use Rattle.lay_flow.specs.declared.blocks.flow_box.BlockBox.{BlockBox}
use Rattle.lay_flow.specs.declared.blocks.flow_box.FloatBox.{FloatBox}
use Rattle.lay_flow.specs.declared.blocks.flow_box.FlowBox.{FlowBox}
use Rattle.lay_flow.specs.declared.blocks.flow_box.FlowKind.{FlowKind}
use Rattle.lay_flow.specs.declared.blocks.flow_box.HeightRule.{HeightRule}
use Rattle.lay_flow.specs.declared.blocks.flow_box.FlowKind.TheVariants.{Block as block, Lines as lines, Solid as solid}
use Rattle.lay_flow.specs.declared.blocks.flow_box.FlowKind.TheVariants.{Float as float, LineFloat as line_float, Inline as inline}
use Rattle.lay_line_items.specs.InlineSegments.{segments_in}
use Rattle.lay_lines.specs.Content.LineContents.{LineContentValue}
use Rattle.lay_line_measures.specs.declared.container.Container.{Container}
use Rattle.lay_line_measures.specs.BoxMeasuresValue.{BoxMeasuresValue}
use Rattle.lay_line_measures.specs.Contents.{content_in}
use Rattle.lay_line_measures.specs.SeenLines.{has_seen_line}
use Rattle.lay_flow.specs.Blocks.Lengths.{length_at}
use Rattle.lay_flow.specs.Blocks.Boxes.{box_at, empty_block}
use Rattle.lay_sizes.specs.declared.sizing.BoxSizes.{BoxSizes}
use Rattle.lay_sizes.specs.declared.own_boxes.OwnBox.{OwnBox}
use Rattle.lay_box_tree.specs.Containing.{container_of}
use Rattle.lay_box_tree.specs.ContextBoxes.{is_inner, is_float}
use Rattle.lay_flow_boxes.specs.InlineContainers.{is_inline_container}
use Rattle.lay_sizes.specs.SizeColumns.{sizes_at}
use Rattle.lay_sizes.specs.OwnBoxes.{own_box_at}
use Rattle.lay_flow_boxes.specs.Outside.{outside}
use Rattle.lay_flow_boxes.specs.PlaceInputs.{height_rule_of}

-- the left content edge of the box at k
abbrev pub content_left : List Length → List BoxSizes → ℕ → Length
content_left lefts sizes k = record { 0 = length_at lefts k +ℤ (sizes_at sizes k).edges.left.0 }

abbrev pub left_of_box : List BoxNode → List BoxSizes → List OwnBox → List Length → ℕ → Length
left_of_box boxes sizes inner lefts zero = no_length
left_of_box boxes sizes inner lefts (suc k) = record {
  0 = (content_left lefts sizes (container_of boxes (suc k))).0 +ℤ (outside boxes sizes inner (suc k)).margin.left.0;
}

-- the left border edges of boxes in flow, where no float is beside them: each is a margin away from the content edge
-- of its containing block (10.3.3)
pub record HasLefts (boxes : List BoxNode) (sizes : List BoxSizes) (inner : List OwnBox) (lefts : List Length) : Type 0 where
  pub count : length lefts ≡ length boxes
  pub each : (k : ℕ) → k < length boxes → length_at lefts k ≡ (left_of_box boxes sizes inner lefts k).0

abbrev pub side_of : Float → Option Side
side_of floating.None = None
side_of floating.Left = Some side.Left
side_of floating.Right = Some side.Right

abbrev pub cleared_sides : ClearStyle → Cleared
cleared_sides clear.None = sides.None
cleared_sides clear.Left = sides.Left
cleared_sides clear.Right = sides.Right
cleared_sides clear.Both = sides.Both

-- the side to which the box at k floats
abbrev pub float_side : List BoxNode → ℕ → Option Side
float_side boxes k = if is_float boxes k then side_of (style_at (box_styles boxes) k).float else None

-- the edges of the content of a block whose border box begins at `left`
abbrev pub content_across : BoxSizes → Length → Across
content_across z left = record {
  left = record { 0 = left.0 +ℤ z.edges.left.0 };
  right = record { 0 = left.0 +ℤ z.edges.left.0 +ℤ z.widths.width.0 };
}

-- this block, of whose height that is given
abbrev pub block_box : Cleared → BoxSizes → HeightRule → Length → BlockBox
block_box clear z height left = record {
  clear = clear;
  x = left;
  margin = record { top = z.margin_top; bottom = z.margin_bottom };
  inset = record { top = z.edges.top; bottom = z.edges.bottom };
  content = content_across z left;
  height = height;
}

abbrev pub float_box : Side → Cleared → OwnBox → FloatBox
float_box side clear o = record {
  side = side;
  clear = clear;
  margin = o.margin;
  width = o.width;
  height = o.height;
}

-- the box of an inner context: it floats to a side, or is solid
abbrev pub inner_box : Option Side → Cleared → OwnBox → Length → FlowKind
inner_box None clear o left = solid (record {
  clear = clear;
  x = left;
  margin = record { top = o.margin.top; bottom = o.margin.bottom };
  width = o.width;
  height = o.height;
})
inner_box (Some side) clear o left = float (float_box side clear o)

-- what the box at k clears: the context's own box clears no floats of the context
abbrev pub cleared_by : List BoxNode → ℕ → Cleared
cleared_by boxes zero = sides.None
cleared_by boxes (suc k) = cleared_sides (clear_at boxes (suc k))

-- what is given of the height of the box at k, where this is of that of the own box
abbrev pub height_rule : List BoxSizes → HeightRule → ℕ → HeightRule
height_rule sizes own_height zero = own_height
height_rule sizes own_height (suc k) = height_rule_of (sizes_at sizes (suc k))

-- the block box at k
abbrev pub own_block : List BoxNode → List BoxSizes → HeightRule → List Length → ℕ → BlockBox
own_block boxes sizes own_height lefts k =
    block_box (cleared_by boxes k) (sizes_at sizes k) (height_rule sizes own_height k) (record { 0 = length_at lefts k })

-- the box at k, as the content of its lines takes it
abbrev pub line_container : BoxMeasuresValue → List Length → ℕ → Container
line_container m lefts k = record {
  place = k;
  containing = (sizes_at m.sizes k).containing;
  left = (content_across (sizes_at m.sizes k) (record { 0 = length_at lefts k })).left;
  right = (content_across (sizes_at m.sizes k) (record { 0 = length_at lefts k })).right;
}

-- what lines of the box at k would hold
abbrev pub content_of_box : BoxMeasuresValue → List Length → ℕ → LineContentValue
content_of_box m lefts k = content_in m (line_container m lefts k) (segments_in m.face m.boxes k)

-- the box at k has lines of which one is seen (9.4.2)
abbrev pub holds_lines : BoxMeasuresValue → List Length → ℕ → Bool
holds_lines m lefts k = is_inline_container m.boxes k && has_seen_line (content_of_box m lefts k).stretches

-- what they hold
abbrev pub lines_in : BoxMeasuresValue → List Length → ℕ → Option LineContentValue
lines_in m lefts k = if holds_lines m lefts k then Some (content_of_box m lefts k) else None

-- the box at k stands in such lines
abbrev pub is_inside_lines : BoxMeasuresValue → List Length → ℕ → Bool
is_inside_lines m lefts k = nat_lt 0 k && holds_lines m lefts (container_of m.boxes k)

-- a flow box holds lines
abbrev pub has_lines : FlowKind → Bool
has_lines (block b) = false
has_lines (lines l) = true
has_lines (solid b) = false
has_lines (float b) = false
has_lines (line_float b) = false
has_lines inline = false

-- what a box in lines is: a float of this side, or another
abbrev pub kind_in_lines : Option Side → Cleared → OwnBox → FlowKind
kind_in_lines None clear o = inline
kind_in_lines (Some side) clear o = line_float (float_box side clear o)

abbrev pub is_anchor : Role → Bool
is_anchor role.Anchor = true
is_anchor _ = false

-- what the box at k is, where it is in no lines
abbrev pub kind_alone : List BoxNode → List BoxSizes → List OwnBox → HeightRule → List Length → ℕ → FlowKind
kind_alone boxes sizes inner own_height lefts k =
    if is_anchor (role_at boxes k) then block empty_block
    else (if is_inner boxes k
    then inner_box (float_side boxes k) (cleared_by boxes k) (own_box_at inner k) (record { 0 = length_at lefts k })
    else (if is_inline_level (role_at boxes k) then block empty_block else block (own_block boxes sizes own_height lefts k)))

-- what the box at k is, where its lines hold this, or it holds none
abbrev pub kind_by : BoxMeasuresValue → HeightRule → List Length → ℕ → Option LineContentValue → FlowKind
kind_by m own_height lefts k (Some content) =
    lines (record { block = own_block m.boxes m.sizes own_height lefts k; content = content })
kind_by m own_height lefts k None =
    if is_inside_lines m lefts k then kind_in_lines (float_side m.boxes k) (cleared_by m.boxes k) (own_box_at m.inner k)
    else kind_alone m.boxes m.sizes m.inner own_height lefts k

-- the box at k, where the height of the own box is given by this rule
abbrev pub flow_box_of : BoxMeasuresValue → HeightRule → List Length → ℕ → FlowBox
flow_box_of m own_height lefts k = record { parent = container_of m.boxes k; kind = kind_by m own_height lefts k (lines_in m lefts k) }

pub record AreFlowBoxesOf (m : BoxMeasuresValue) (own_height : HeightRule) (lefts : List Length) (flow_boxes : List FlowBox) : Type 0 where
  pub count : length flow_boxes ≡ length m.boxes
  pub each : (k : ℕ) → k < length m.boxes → box_at flow_boxes k ≡ flow_box_of m own_height lefts k
