-- How `vertical-align` shifts the baseline of an inline-level box in its parent box (CSS 2.2, 10.8.1): by a length, or as
-- the shape of its line says from a measure of the parent's font. "The proper position for subscripts of the parent's box"
-- is here a fifth of the parent's font size lower, and that for superscripts a third of it higher, both rounded down. A
-- percentage is of the line height "of the element itself". A box of 16px in one of 15px that is `sub` stands 3px lower.
use Rattle.std.specs.Prelude.{ℕ, ℤ, pos, neg_ℤ, List, Option, Some, None, slice_get, if◌then◌else◌}
use Rattle.lay_units.specs.Units.{clamp_of, floor_div, percentage_of}
use Rattle.lay_style.specs.declared.style.TextStyle.{TextStyle}
use Rattle.lay_style.specs.declared.style_lengths.VerticalAlign.{VerticalAlign}
use Rattle.lay_style.specs.declared.style_lengths.VerticalAlign.TheVariants as align
use Rattle.lay_box_tree.specs.Kinds.{is_wrapper}
use Rattle.lay_box_tree.specs.declared.box_tree.BoxNode.{BoxNode}
use Rattle.lay_face.specs.FaceValue.{FaceValue}
use Rattle.lay_valign.specs.declared.parts.Shift.{Shift}
use Rattle.lay_valign.specs.declared.parts.Shift.TheVariants as shift
use Rattle.lay_line_measures.specs.BoxMeasuresValue.{BoxMeasuresValue}
use Rattle.lay_line_measures.specs.LineHeights.{ascent, descent, used_font_size, line_height, x_height}

-- its baseline stands so far above its parent's
abbrev pub raised_by : ℤ → Shift
raised_by v = shift.By (record { 0 = v })

-- the shift of a box of the style `own` in a box of the style `parent`, for each value of `vertical-align`
abbrev pub shift_for : FaceValue → (parent own : TextStyle) → VerticalAlign → Shift
shift_for face parent own align.Baseline = raised_by (pos 0)
shift_for face parent own align.Sub = raised_by (neg_ℤ (floor_div (used_font_size parent) 5))
shift_for face parent own align.Super = raised_by (floor_div (used_font_size parent) 3)
shift_for face parent own (align.Length u) = raised_by (clamp_of u.0)
shift_for face parent own (align.Percent h) = raised_by (percentage_of h.0 (line_height face own))
shift_for face parent own align.Middle = shift.Middle (record { 0 = x_height face parent })
shift_for face parent own align.TextTop = shift.TextTop (record { 0 = ascent face parent })
shift_for face parent own align.TextBottom = shift.TextBottom (record { 0 = descent face parent })
shift_for face parent own align.Top = shift.Top
shift_for face parent own align.Bottom = shift.Bottom

-- What `vertical-align` says for a box. The wrapper of a table stands on the baseline, since the property is used on the
-- table box in it (17.4).
abbrev pub alignment_of : BoxNode → VerticalAlign
alignment_of b = if is_wrapper b.kind then align.Baseline else b.style.text.vertical_align

-- the shift of a box in this box, which is its parent
abbrev pub shift_below : FaceValue → Option BoxNode → BoxNode → Shift
shift_below face None b = raised_by (pos 0)
shift_below face (Some parent) b = shift_for face parent.style.text b.style.text (alignment_of b)

abbrev pub shift_in : FaceValue → List BoxNode → Option BoxNode → Shift
shift_in face boxes None = raised_by (pos 0)
shift_in face boxes (Some b) = shift_below face (slice_get boxes b.parent) b

-- the shift of the box at k
abbrev pub box_shift_at : BoxMeasuresValue → ℕ → Shift
box_shift_at m k = shift_in m.face m.boxes (slice_get m.boxes k)
