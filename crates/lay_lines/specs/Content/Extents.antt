-- How high a line is (CSS 2.2, 10.8 and 10.8.1): that follows from its parts. The first is the strut. Then come the
-- inline boxes that are open at the line's start, outermost first, and then in order each inline box that starts on the
-- line and each atomic box on it. An inline box has a part on each line from its start to its end. The parent of
-- a part is the innermost inline box that is open there, or the strut.
use Rattle.std.specs.Prelude.{ℕ, zero, suc, pos, ℤ, ◌+ℤ◌, ◌-◌, Bool, false, ◌||◌, List, [], ◌∷◌}
use Rattle.std.specs.Prelude.{◌++◌, length, take, slice_index, Option, Some, None, slice_get}
use Rattle.lay_units.specs.declared.length.Unit.{Unit}
use Rattle.lay_valign.specs.declared.parts.LineShape.{LineShape}
use Rattle.lay_valign.specs.declared.parts.Part.{Part as LinePart}
use Rattle.lay_valign.specs.declared.parts.Shift.{Shift}
use Rattle.lay_valign.specs.declared.parts.Shift.TheVariants.{By}
use Rattle.lay_lines.specs.declared.content.content.Part.{Part}
use Rattle.lay_lines.specs.declared.content.content.Part.TheVariants.{Space, PreservedSpace, Tab, Linefeed, Text, Start, End, Atomic}
use Rattle.lay_lines.specs.declared.content.content.Stretch.{Stretch}
use Rattle.lay_lines.specs.declared.content.content.InlineStart.{InlineStart}
use Rattle.lay_lines.specs.declared.content.frame.Extent.{Extent}
use Rattle.lay_lines.specs.declared.content.frame.Frame.{Frame}

-- an inline box that is open at the start of a line makes it seen where it has a margin, a border or a padding
-- at its top or bottom
abbrev pub any_shows : List InlineStart → Bool
any_shows [] = false
any_shows (b ∷ bs) = b.shows || any_shows bs

abbrev pub all_but_last : {X : Type 0} → List X → List X
all_but_last xs = take (length xs - 1) xs

-- the parts of a line, and the places among them of the inline boxes that are open, outermost first
pub record LineParts : Type 0 where
  pub places : List ℕ
  pub parts : List LinePart

abbrev pub part_by : Extent → Shift → ℕ → LinePart
part_by e shift parent = record { above = e.above; below = e.below; shift = shift; parent = parent }

abbrev pub innermost : List ℕ → ℕ
innermost places = slice_index places (length places - 1)

abbrev pub strut_alone : Extent → LineParts
strut_alone e = record { places = []; parts = part_by e (By (record { 0 = pos 0 })) 0 ∷ [] }

-- with one more part
abbrev pub stood : LineParts → Extent → Shift → LineParts
stood l e shift = record { places = l.places; parts = l.parts ++ part_by e shift (innermost l.places) ∷ [] }

-- and with one that is open then
abbrev pub opened : LineParts → Extent → Shift → LineParts
opened l e shift = record { places = l.places ++ length l.parts ∷ []; parts = l.parts ++ part_by e shift (innermost l.places) ∷ [] }

abbrev pub opened_all : LineParts → List InlineStart → LineParts
opened_all l [] = l
opened_all l (b ∷ bs) = opened_all (opened l b.extent b.shift) bs

abbrev pub closed : LineParts → LineParts
closed l = record { places = all_but_last l.places; parts = l.parts }

-- the inline boxes that are open after some content of a line, and the line's parts so far
pub record Reading : Type 0 where
  pub open_boxes : List InlineStart
  pub line : LineParts

abbrev pub reading_of : List InlineStart → LineParts → Reading
reading_of bs l = record { open_boxes = bs; line = l }

abbrev pub read : Reading → Part → Reading
read r (Space w) = r
read r (PreservedSpace w) = r
read r (Tab t) = r
read r Linefeed = r
read r (Text w) = r
read r (Start b) = reading_of (r.open_boxes ++ b ∷ []) (opened r.line b.extent b.shift)
read r (End b) = reading_of (all_but_last r.open_boxes) (closed r.line)
read r (Atomic a) = reading_of r.open_boxes (stood r.line a.extent a.shift)

abbrev pub read_all : Reading → List Part → Reading
read_all r [] = r
read_all r (x ∷ xs) = read_all (read r x) xs

abbrev pub read_at : Reading → Option Stretch → Reading
read_at r None = r
read_at r (Some s) = read_all r s.parts

-- after the first k of these, on a line at whose start these boxes are open
abbrev pub reading_to : Frame → List InlineStart → List Stretch → ℕ → Reading
reading_to fr bs ss zero = reading_of bs (opened_all (strut_alone fr.strut) bs)
reading_to fr bs ss (suc k) = read_at (reading_to fr bs ss k) (slice_get ss k)

-- the parts of a line that takes the first k of these
abbrev pub parts_to : Frame → List InlineStart → List Stretch → ℕ → List LinePart
parts_to fr bs ss k = (reading_to fr bs ss k).line.parts

-- a line's shape, from what a row has of it
abbrev pub shape_of : List Unit → Extent → LineShape
shape_of shifts e = record { shifts = shifts; above = e.above; below = e.below }

abbrev pub height_of : Extent → ℤ
height_of e = e.above.0 +ℤ e.below.0
