-- How high a text and an inline box are, and how far they reach above and below the baseline (CSS 2.2, 10.6.1 and
-- 10.8.1). The face says how high the content area is: A above the baseline and D below it. "The leading L =
-- 'line-height' - AD", half of which "is added above A and the other half below D". Of an odd leading the lesser half,
-- rounded down, is added above.
use Rattle.std.specs.Prelude.{ℤ, ◌+ℤ◌, ◌-ℤ◌, ◌*ℤ◌}
use Rattle.lay_units.specs.Units.{clamp_size_of, floor_div, half_of}
use Rattle.lay_style.specs.declared.style.TextStyle.{TextStyle}
use Rattle.lay_style.specs.declared.style_lengths.LineHeight.{LineHeight}
use Rattle.lay_style.specs.declared.style_lengths.LineHeight.TheVariants as line
use Rattle.lay_face.specs.FaceValue.{FaceValue}
use Rattle.lay_face.specs.Faces.{thousandths_of}
use Rattle.lay_lines.specs.declared.content.frame.Extent.{Extent}

-- the used font size
abbrev pub used_font_size : TextStyle → ℤ
used_font_size s = clamp_size_of s.font_size.0

-- A and D
abbrev pub ascent : FaceValue → TextStyle → ℤ
ascent face s = thousandths_of face.ascent (used_font_size s)

abbrev pub descent : FaceValue → TextStyle → ℤ
descent face s = thousandths_of face.descent (used_font_size s)

abbrev pub x_height : FaceValue → TextStyle → ℤ
x_height face s = thousandths_of face.x_height (used_font_size s)

-- A used line height beside a used font size. What `normal` is, the face says; a number is of the font size, in
-- thousandths. A percentage was taken of the font size when the style was computed.
abbrev pub line_height_in : FaceValue → ℤ → LineHeight → ℤ
line_height_in face size line.Normal = clamp_size_of (thousandths_of face.normal_line_height size)
line_height_in face size (line.Number n) = clamp_size_of (floor_div (n *ℤ size) 1000)
line_height_in face size (line.Length u) = clamp_size_of u.0

abbrev pub line_height : FaceValue → TextStyle → ℤ
line_height face s = line_height_in face (used_font_size s) s.line_height

-- the leading, half of which is added above
abbrev pub line_leading : ℤ → ℤ → ℤ → ℤ
line_leading a d height = height -ℤ (a +ℤ d)

abbrev pub with_leading : ℤ → ℤ → ℤ → Extent
with_leading a d height = record {
  above = record { 0 = a +ℤ half_of (line_leading a d height) };
  below = record { 0 = d +ℤ (line_leading a d height -ℤ half_of (line_leading a d height)) };
}

-- how far an inline box of this style reaches, and so the strut of a container (10.8.1)
abbrev pub inline_extent : FaceValue → TextStyle → Extent
inline_extent face s = with_leading (ascent face s) (descent face s) (line_height face s)
