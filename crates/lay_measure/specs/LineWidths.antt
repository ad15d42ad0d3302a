-- The preferred widths of what stands in lines. CSS 2.2, 10.3.5: "calculate the preferred width by formatting the
-- content without breaking lines other than where explicit line breaks occur, and also calculate the preferred
-- minimum width, e.g., by trying all possible line breaks." So the one is the width of the widest line where lines
-- break at preserved linefeeds alone, with the floats of the line beside it, and the other that of the widest where
-- they break wherever they may, or of the widest float. Spaces at the start and the end of a line don't count
-- (16.6.1). A `text-indent` that is a length comes before the first line where that is seen; a first line that isn't
-- seen (9.4.2) is the only one.
use Rattle.std.specs.Prelude.{ℤ, pos, ◌+ℤ◌, ◌*ℤ◌, Bool, true, false, List, [], ◌∷◌, ◌++◌, if◌then◌else◌}
use Rattle.std.specs.List.{list_any}
use Rattle.std.specs.Int.{int_max}
use Rattle.lay_units.specs.declared.length.Unit.{Unit as Length}
use Rattle.lay_units.specs.Lengths.{no_length}
use Rattle.lay_units.specs.TabStops.{next_stop}
use Rattle.lay_style.specs.LengthValues.{length_of, size_of}
use Rattle.lay_style.specs.declared.style.TextStyle.{TextStyle}
use Rattle.lay_style.specs.declared.style_lengths.LengthPercentage.{LengthPercentage}
use Rattle.lay_style.specs.declared.style_lengths.LengthPercentage.TheVariants as measure
use Rattle.lay_face.specs.FaceValue.{FaceValue}
use Rattle.lay_face.specs.Faces.{entry_of, thousandths_of}
use Rattle.lay_space.specs.declared.segment.Segment.{Segment}
use Rattle.lay_measure.specs.LineParts.{line_parts}
use Rattle.lay_measure.specs.MeasureInValue.{MeasureInValue}
use Rattle.lay_measure.specs.declared.line_parts.LinePart.{LinePart}
use Rattle.lay_measure.specs.declared.line_parts.LinePart.TheVariants as part
use Rattle.lay_measure.specs.declared.pen.Pen.{Pen}
use Rattle.lay_measure.specs.declared.pen.Breaking.{Breaking}
use Rattle.lay_measure.specs.declared.pen.Breaking.TheVariants as breaking
use Rattle.lay_measure.specs.declared.preferred_widths.PreferredWidths.{PreferredWidths}

-- a line that begins here
abbrev pub begun : Length → Pen
begun at = record { at = at; visible = at; started = false }

-- content reaches to here
abbrev pub pen_reaching : ℤ → Pen
pen_reaching to = record { at = record { 0 = to }; visible = record { 0 = to }; started = true }

-- a collapsible space is gone at the start of a line, and counts where something follows
abbrev pub pen_spaced : Pen → ℤ → Pen
pen_spaced p w = if p.started then record { at = record { 0 = p.at.0 +ℤ w }; visible = p.visible; started = true } else p

-- a preserved space counts where something follows
abbrev pub pen_hung : Pen → ℤ → Pen
pen_hung p w = record { at = record { 0 = p.at.0 +ℤ w }; visible = p.visible; started = true }

-- an edge of an inline box takes its room before and after spaces alike
abbrev pub moved : Pen → ℤ → Pen
moved p w = record { at = record { 0 = p.at.0 +ℤ w }; visible = record { 0 = p.visible.0 +ℤ w }; started = p.started }

-- of two preferred widths the one that counts
abbrev pub width_for : Breaking → PreferredWidths → Length
width_for breaking.WhereAllowed w = w.minimum
width_for breaking.WhereForced w = w.preferred

-- how far a line has come after a part, where tab stops are so far apart
abbrev pub pen_over : Breaking → ℤ → Pen → LinePart → Pen
pen_over how tab p (part.Space w) = pen_spaced p w.0
pen_over how tab p (part.HangingSpace w) = pen_hung p w.0
pen_over how tab p part.Tab = pen_reaching (next_stop tab p.at.0)
pen_over how tab p part.Linefeed = p
pen_over how tab p (part.Cluster w) = pen_reaching (p.at.0 +ℤ w.0)
pen_over how tab p (part.Edge w seen) = moved p w.0
pen_over how tab p (part.Atomic w) = pen_reaching (p.at.0 +ℤ (width_for how w).0)
pen_over how tab p (part.Float w) = p
pen_over how tab p (part.Break forced) = p

abbrev pub pen_after : Breaking → ℤ → Pen → List LinePart → Pen
pen_after how tab p [] = p
pen_after how tab p (x ∷ xs) = pen_after how tab (pen_over how tab p x) xs

-- how wide the floats of a line are beside each other, and how wide the widest is
abbrev pub float_sum : List LinePart → ℤ
float_sum [] = pos 0
float_sum (part.Float w ∷ xs) = w.preferred.0 +ℤ float_sum xs
float_sum (_ ∷ xs) = float_sum xs

abbrev pub widest_float : List LinePart → ℤ
widest_float [] = pos 0
widest_float (part.Float w ∷ xs) = int_max w.minimum.0 (widest_float xs)
widest_float (_ ∷ xs) = widest_float xs

-- how wide a line of these parts is, which begins at `start`, with its floats
abbrev pub line_width : Breaking → ℤ → Length → List LinePart → ℤ
line_width breaking.WhereAllowed tab start xs = int_max (pen_after breaking.WhereAllowed tab (begun start) xs).visible.0 (widest_float xs)
line_width breaking.WhereForced tab start xs = (pen_after breaking.WhereForced tab (begun start) xs).visible.0 +ℤ float_sum xs

-- whether a line ends here
abbrev pub ends_line : Breaking → LinePart → Bool
ends_line breaking.WhereAllowed (part.Break forced) = true
ends_line breaking.WhereForced (part.Break forced) = forced
ends_line how _ = false

-- the lines of these parts, where the first line has these already
abbrev pub lines_of : Breaking → List LinePart → List LinePart → List (List LinePart)
lines_of how line [] = line ∷ []
lines_of how line (x ∷ xs) = if ends_line how x then line ∷ lines_of how [] xs else lines_of how (line ++ x ∷ []) xs

-- the width of the widest line, of which the first begins at `start`, and none is narrower than 0
abbrev pub widest : Breaking → ℤ → Length → List (List LinePart) → ℤ
widest how tab start [] = pos 0
widest how tab start (l ∷ ls) = int_max (line_width how tab start l) (widest how tab no_length ls)

-- whether a part makes its line seen
abbrev pub is_seen : LinePart → Bool
is_seen (part.Space w) = false
is_seen (part.HangingSpace w) = true
is_seen part.Tab = true
is_seen part.Linefeed = true
is_seen (part.Cluster w) = true
is_seen (part.Edge w seen) = seen
is_seen (part.Atomic w) = true
is_seen (part.Float w) = false
is_seen (part.Break forced) = false

-- `text-indent`
abbrev pub indent_length : LengthPercentage → Length
indent_length (measure.Length u) = length_of u.0
indent_length (measure.Percent h) = no_length

abbrev pub first_start : TextStyle → List LinePart → Length
first_start s xs = if list_any is_seen xs then indent_length s.text_indent else no_length

-- how far apart tab stops are: eight times the width of a space (16.6)
abbrev pub tab_of : FaceValue → TextStyle → ℤ
tab_of face s = pos 8 *ℤ thousandths_of (entry_of face 32) (size_of s.font_size.0).0

abbrev pub parts_widths : FaceValue → TextStyle → List LinePart → PreferredWidths
parts_widths face s xs = record {
  minimum = record { 0 = widest breaking.WhereAllowed (tab_of face s) (first_start s xs) (lines_of breaking.WhereAllowed [] xs) };
  preferred = record { 0 = widest breaking.WhereForced (tab_of face s) (first_start s xs) (lines_of breaking.WhereForced [] xs) };
}

-- the preferred widths of a container of this style that has these segments
abbrev pub inline_widths : MeasureInValue → TextStyle → List Segment → PreferredWidths
inline_widths m s ss = parts_widths m.face s (line_parts m ss)
