-- The floats of a block formatting context, its solid boxes, which no float overlaps, and its lines, which floats shorten
-- (CSS 2.2, 9.4.2, 9.5 and 9.5.1). They are read among the boxes in document order. There is a column of spots with an entry
-- for each box. The place of a float is the corner of its margin box, and that of a solid box the corner of its border box.
-- Other boxes have none, and theirs is 0. A box that holds lines has these, with the floats that stand once they are laid.
--
-- For example, a root has three children: a block 10 px high with a bottom margin of 20 px, a left float 30 px wide and
-- 50 px high, and a solid box 40 px high in the margin's run. The run ends at 30 px, where the solid box has its mark. The
-- float's mark is that of an empty block there, 30 px, and so is its top. The solid box stands right of it, at 30 px.
use Rattle.std.specs.Prelude.{ℕ, zero, suc, ℤ, ◌+ℤ◌, List, [], ◌∷◌, ◌++◌, slice_index_or, Option, Some, None}
use Rattle.std.specs.Int.{int_max}
use Rattle.lay_flow.specs.declared.blocks.flow_box.FlowBox.{FlowBox}
use Rattle.lay_flow.specs.Blocks.Boxes.{no_across, box_at, parent_at}
use Rattle.lay_units.specs.declared.length.Unit.{Unit as Length}
use Rattle.lay_units.specs.Lengths.{no_length}
use Rattle.lay_floats.specs.declared.placed.Placed.{Placed}
use Rattle.lay_floats.specs.declared.requests.Clear.TheVariants.{None as clear_none}
use Rattle.lay_floats.specs.declared.requests.Side.{Side}
use Rattle.lay_floats.specs.declared.requests.FloatReq.{FloatReq}
use Rattle.lay_floats.specs.declared.requests.SolidReq.{SolidReq}
use Rattle.lay_floats.specs.declared.requests.Place.{Place}
use Rattle.lay_flow.specs.declared.blocks.flow_box.FlowKind.{FlowKind}
use Rattle.lay_flow.specs.declared.blocks.flow_box.FlowKind.TheVariants.{Block as block, Lines as lines, Solid as solid}
use Rattle.lay_flow.specs.declared.blocks.flow_box.FlowKind.TheVariants.{Float as float, LineFloat as line_float, Inline as inline}
use Rattle.lay_flow.specs.declared.blocks.flow_box.Across.{Across}
use Rattle.lay_flow.specs.declared.blocks.shape.Shape.{Shape}
use Rattle.lay_flow.specs.declared.blocks.block.Inside.{Inside}
use Rattle.lay_flow.specs.declared.blocks.block.Inside.TheVariants.{Blocks as blocks_inside, Lines as lines_inside, Solid as solid_inside}
use Rattle.lay_lines.specs.Content.LineContents.{LineContentValue}
use Rattle.lay_lines.specs.Lines.{LinesValue, AreLines}
use Rattle.lay_flow.specs.Blocks.Lengths.{length_at}
use Rattle.lay_flow.specs.Blocks.MarginRuns.{block_at}

-- the content edges of a box, and 0 of one in which no box stands
abbrev pub content_of : FlowKind → Across
content_of (block b) = b.content
content_of (lines l) = l.block.content
content_of (solid b) = no_across
content_of (float b) = no_across
content_of (line_float b) = no_across
content_of inline = no_across

abbrev pub no_shape : Across → Shape
no_shape around = record {
  float = None;
  clear = clear_none;
  left = around.left;
  right = around.right;
  x = no_length;
  width = no_length;
  height = no_length;
}

-- a box as floats see it: the size of the margin box of a float and of the border box of a solid box counts. Around it there
-- are content edges. What stands in lines takes no part: the lines have it.
abbrev pub shape_of : Across → FlowKind → Shape
shape_of around (block b) = record {
  float = None;
  clear = b.clear;
  left = around.left;
  right = around.right;
  x = b.x;
  width = no_length;
  height = no_length;
}
shape_of around (lines l) = record {
  float = None;
  clear = l.block.clear;
  left = around.left;
  right = around.right;
  x = l.block.x;
  width = no_length;
  height = no_length;
}
shape_of around (solid b) = record {
  float = None;
  clear = b.clear;
  left = around.left;
  right = around.right;
  x = b.x;
  width = b.width;
  height = b.height;
}
shape_of around (float b) = record {
  float = Some b.side;
  clear = b.clear;
  left = around.left;
  right = around.right;
  x = no_length;
  width = record { 0 = b.margin.left.0 +ℤ b.width.0 +ℤ b.margin.right.0 };
  height = record { 0 = b.margin.top.0 +ℤ b.height.0 +ℤ b.margin.bottom.0 };
}
shape_of around (line_float b) = no_shape around
shape_of around inline = no_shape around

-- the containing block of a float or a solid box is its parent
abbrev pub shape_at : List FlowBox → ℕ → Shape
shape_at boxes k = shape_of (content_of (box_at boxes (parent_at boxes k)).kind) (box_at boxes k).kind

abbrev pub no_place : Place
no_place = record { x = no_length; y = no_length }

abbrev pub no_lines : LinesValue
no_lines = record { rows = []; places = []; end = no_length; floats = [] }

-- where a box was placed, and the lines in it
pub record Spot : Type 0 where
  pub place : Place
  pub lines : LinesValue

abbrev pub no_spot : Spot
no_spot = record { place = no_place; lines = no_lines }

abbrev pub spot_at : List Spot → ℕ → Spot
spot_at places k = slice_index_or places k no_spot

abbrev pub place_at : List Spot → ℕ → Place
place_at places k = (spot_at places k).place

abbrev pub lines_at : List Spot → ℕ → LinesValue
lines_at places k = (spot_at places k).lines

-- a box with this shape and place, if it is a float
abbrev pub float_with_shape : Shape → Place → List Placed
float_with_shape s p = on_side s.float
  where
    on_side : Option Side → List Placed
    on_side None = []
    on_side (Some side) = record { side = side; x = p.x; y = p.y; width = s.width; height = s.height } ∷ []

-- the floats after a box, where these were before it: those that its lines leave, or one more if it is a float itself
abbrev pub floats_after : List Placed → Inside → Shape → Spot → List Placed
floats_after floats blocks_inside s p = floats ++ float_with_shape s p.place
floats_after floats lines_inside s p = p.lines.floats
floats_after floats solid_inside s p = floats ++ float_with_shape s p.place

-- the floats before the box at k, as they stand
abbrev pub floats_before : List FlowBox → List Spot → ℕ → List Placed
floats_before boxes places zero = []
floats_before boxes places (suc k) =
    floats_after (floats_before boxes places k) (block_at boxes k).inside (shape_at boxes k) (spot_at places k)

-- a float stands at no place above its mark, nor above the top of its containing block's content
abbrev pub ceiling : List FlowBox → List Length → ℕ → ℤ
ceiling boxes marks k =
    let p = parent_at boxes k in
    int_max (length_at marks k) (length_at marks p +ℤ (block_at boxes p).edge_top.0)

abbrev pub no_content : LineContentValue
no_content = record { strut = record { above = no_length; below = no_length }; indent = no_length; tab = no_length; stretches = [] }

abbrev pub line_content_of : FlowKind → LineContentValue
line_content_of (block b) = no_content
line_content_of (lines l) = l.content
line_content_of (solid b) = no_content
line_content_of (float b) = no_content
line_content_of (line_float b) = no_content
line_content_of inline = no_content

-- the box at k has its lines in its content box, beside the floats before it (9.4.2 and 9.5)
abbrev pub AreLinesAt : List FlowBox → List Length → List Spot → ℕ → Type 0
AreLinesAt boxes marks places k =
    let kind = (box_at boxes k).kind in
    AreLines (line_content_of kind) (content_of kind).left (content_of kind).right
    (length_at marks k +ℤ (block_at boxes k).edge_top.0) (floats_before boxes places k) (lines_at places k)

-- what a float with this shape asks for
abbrev pub float_request : Shape → Side → ℤ → FloatReq
float_request s side top =
    record {
      side = side;
      width = s.width;
      height = s.height;
      left = s.left;
      right = s.right;
      ceiling = record { 0 = top };
      clear = s.clear;
    }

-- what a solid box with this shape and this mark asks for
abbrev pub solid_request : Shape → ℤ → SolidReq
solid_request s mark = record { x = s.x; width = s.width; height = s.height; right = s.right; top = record { 0 = mark } }
