-- The edges of inline boxes in lines (CSS 2.2, 8.3 to 8.6, 9.2.1.1 and 10.6.1). An inline box takes the room of its left
-- margin, border and padding where it starts, and of its right ones where it ends. Where blocks broke it into parts, its
-- left edges stand on the first part and its right ones on the last. 9.4.2 speaks of inline elements "with non-zero
-- margins, padding, or borders": such an edge makes its line seen, one above or below each line that the box is on.
use Rattle.std.specs.Prelude.{ℕ, ◌+ℤ◌, Bool, ◌&&◌, ◌||◌, List, [], ◌∷◌}
use Rattle.std.specs.Prelude.{◌++◌, zero, suc, length, Option, Some, None, slice_get, if◌then◌else◌}
use Rattle.lay_units.specs.Lengths.{is_nonzero, no_length}
use Rattle.lay_style.specs.declared.style.TextStyle.{TextStyle}
use Rattle.lay_box_tree.specs.Roles.{role_of}
use Rattle.lay_box_tree.specs.declared.box_role.Role.{Role}
use Rattle.lay_box_tree.specs.declared.box_role.Role.TheVariants as role
use Rattle.lay_box_tree.specs.declared.box_tree.BoxNode.{BoxNode}
use Rattle.lay_box_tree.specs.declared.inline_part.InlinePart.{InlinePart}
use Rattle.lay_face.specs.FaceValue.{FaceValue}
use Rattle.lay_sizes.specs.declared.sizing.BoxSizes.{BoxSizes}
use Rattle.lay_sizes.specs.SizeColumns.{sizes_at}
use Rattle.lay_lines.specs.declared.content.content.InlineArea.{InlineArea}
use Rattle.lay_lines.specs.declared.content.content.InlineStart.{InlineStart}
use Rattle.lay_lines.specs.declared.content.content.InlineEnd.{InlineEnd}
use Rattle.lay_lines.specs.declared.content.frame.Extent.{Extent}
use Rattle.lay_sizes.specs.declared.own_boxes.OwnBox.{OwnBox}
use Rattle.lay_sizes.specs.OwnBoxes.{own_box_at}
use Rattle.lay_valign.specs.declared.parts.Shift.{Shift}
use Rattle.lay_line_measures.specs.AtomicBoxes.{atomic_area}
use Rattle.lay_line_measures.specs.BoxMeasuresValue.{BoxMeasuresValue, part_at}
use Rattle.lay_line_measures.specs.LineHeights.{ascent, descent, inline_extent}
use Rattle.lay_line_measures.specs.VerticalAlignment.{box_shift_at}

-- a margin, a border or a padding above or below isn't 0
abbrev pub shows_vertical_edge : BoxSizes → Bool
shows_vertical_edge z = is_nonzero z.margin_top.0 || is_nonzero z.edges.top.0 || is_nonzero z.edges.bottom.0 || is_nonzero z.margin_bottom.0

abbrev pub shows_left_edge : BoxSizes → Bool
shows_left_edge z = is_nonzero z.widths.margin_left.0 || is_nonzero z.edges.left.0

abbrev pub shows_right_edge : BoxSizes → Bool
shows_right_edge z = is_nonzero z.edges.right.0 || is_nonzero z.widths.margin_right.0

-- how far the inline box at k reaches above and below the baseline
abbrev pub extent_in : FaceValue → Option BoxNode → Extent
extent_in face None = record { above = no_length; below = no_length }
extent_in face (Some b) = inline_extent face b.style.text

abbrev pub extent_at : BoxMeasuresValue → ℕ → Extent
extent_at m k = extent_in m.face (slice_get m.boxes k)

abbrev pub inline_start_in : ℕ → BoxSizes → InlinePart → Extent → Shift → InlineStart
inline_start_in k z part extent shift = record {
  node = k;
  width = if part.first then record { 0 = z.widths.margin_left.0 +ℤ z.edges.left.0 } else no_length;
  seen = shows_vertical_edge z || (part.first && shows_left_edge z);
  shows = shows_vertical_edge z;
  extent = extent;
  shift = shift;
}

-- the start of the inline box at k
abbrev pub start_at : BoxMeasuresValue → ℕ → InlineStart
start_at m k = inline_start_in k (sizes_at m.sizes k) (part_at m k) (extent_at m k) (box_shift_at m k)

abbrev pub inline_end_in : ℕ → BoxSizes → InlinePart → InlineEnd
inline_end_in k z part = record {
  node = k;
  width = if part.last then record { 0 = z.edges.right.0 +ℤ z.widths.margin_right.0 } else no_length;
  seen = part.last && shows_right_edge z;
}

-- its end
abbrev pub end_at : BoxMeasuresValue → ℕ → InlineEnd
end_at m k = inline_end_in k (sizes_at m.sizes k) (part_at m k)

abbrev pub no_inline_area : InlineArea
no_inline_area = record { above = no_length; below = no_length; margin_left = no_length; margin_right = no_length }

-- What is painted of a box on a line: the content area of a text, and the border box of an inline box or of an atomic box,
-- which is beside its margins.
abbrev pub text_area : FaceValue → TextStyle → InlineArea
text_area face s = record {
  above = record { 0 = ascent face s };
  below = record { 0 = descent face s };
  margin_left = no_length;
  margin_right = no_length;
}

abbrev pub inline_area : FaceValue → TextStyle → BoxSizes → InlinePart → InlineArea
inline_area face s z part = record {
  above = record { 0 = ascent face s +ℤ z.edges.top.0 };
  below = record { 0 = descent face s +ℤ z.edges.bottom.0 };
  margin_left = if part.first then z.widths.margin_left else no_length;
  margin_right = if part.last then z.widths.margin_right else no_length;
}

abbrev pub area_as : FaceValue → Role → TextStyle → BoxSizes → InlinePart → OwnBox → InlineArea
area_as face role.Text s z part o = text_area face s
area_as face role.Inline s z part o = inline_area face s z part
area_as face role.Atomic s z part o = atomic_area o
area_as face _ s z part o = no_inline_area

abbrev pub area_in : BoxMeasuresValue → ℕ → Option BoxNode → InlineArea
area_in m k None = no_inline_area
area_in m k (Some b) = area_as m.face (role_of b) b.style.text (sizes_at m.sizes k) (part_at m k) (own_box_at m.inner k)

-- the area of the box at k
abbrev pub inline_area_at : BoxMeasuresValue → ℕ → InlineArea
inline_area_at m k = area_in m k (slice_get m.boxes k)

-- those of the first n boxes
abbrev pub areas_to : BoxMeasuresValue → ℕ → List InlineArea
areas_to m zero = []
areas_to m (suc k) = areas_to m k ++ inline_area_at m k ∷ []

abbrev pub inline_areas : BoxMeasuresValue → List InlineArea
inline_areas m = areas_to m (length m.boxes)
