-- The content of the lines of a block container (CSS 2.2, 9.4.2, 10.8.1, 16.1 and 16.6.1): its stretches, its strut, its
-- `text-indent`, of which a percentage is one of the width of its containing block, and the distance of its tab stops,
-- eight times the width of a space in its font.
use Rattle.std.specs.Prelude.{ℤ, pos, ◌*ℤ◌, true, List, Option, Some, None, slice_get}
use Rattle.lay_units.specs.Units.{percentage_of}
use Rattle.lay_units.specs.declared.length.Unit.{Unit as Length}
use Rattle.lay_units.specs.Lengths.{no_length}
use Rattle.lay_style.specs.LengthValues.{length_of}
use Rattle.lay_style.specs.declared.style_lengths.LengthPercentage.{LengthPercentage}
use Rattle.lay_style.specs.declared.style_lengths.LengthPercentage.TheVariants as measure
use Rattle.lay_box_tree.specs.declared.box_tree.BoxNode.{BoxNode}
use Rattle.lay_face.specs.FaceValue.{FaceValue}
use Rattle.lay_face.specs.Faces.{entry_of, thousandths_of}
use Rattle.lay_space.specs.declared.segment.Segment.{Segment}
use Rattle.lay_lines.specs.declared.content.content.Stretch.{Stretch}
use Rattle.lay_lines.specs.Content.LineContents.{LineContentValue, content_of}
use Rattle.lay_line_measures.specs.declared.container.Container.{Container}
use Rattle.lay_line_measures.specs.BoxMeasuresValue.{BoxMeasuresValue}
use Rattle.lay_line_measures.specs.InlineBoxes.{extent_at}
use Rattle.lay_line_measures.specs.LineHeights.{used_font_size}
use Rattle.lay_line_measures.specs.Stretches.{stretches_of}

abbrev pub used_indent : Length → LengthPercentage → Length
used_indent containing (measure.Length u) = length_of u.0
used_indent containing (measure.Percent h) = record { 0 = percentage_of h.0 containing.0 }

abbrev pub indent_in : Length → Option BoxNode → Length
indent_in containing None = no_length
indent_in containing (Some b) = used_indent containing b.style.text.text_indent

abbrev pub tab_in : FaceValue → Option BoxNode → ℤ
tab_in face None = pos 0
tab_in face (Some b) = pos 8 *ℤ thousandths_of (entry_of face 32) (used_font_size b.style.text)

-- the content of the lines of a container with these stretches
abbrev pub content_with : BoxMeasuresValue → Container → List Stretch → LineContentValue
content_with m c stretches =
    content_of (extent_at m c.place) (indent_in c.containing (slice_get m.boxes c.place))
    (record { 0 = tab_in m.face (slice_get m.boxes c.place) }) stretches

-- and with these segments
abbrev pub content_in : BoxMeasuresValue → Container → List Segment → LineContentValue
content_in m c segments = content_with m c (stretches_of m c true segments)
