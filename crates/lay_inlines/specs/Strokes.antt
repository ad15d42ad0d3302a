-- Where the content of a line stands (CSS 2.2, 9.4.2 and 16.6.1). The pen is that with which the line was filled. It
-- passes over collapsible spaces at a line's start, which are removed. Those at its end are removed too, and what
-- follows them there, as the end of an inline box, stands as if they weren't there.
use Rattle.std.specs.Prelude.{ℤ, Bool, true, false, ◌||◌, ◌&&◌, if◌then◌else◌, List, [], ◌∷◌, ◌++◌}
use Rattle.lay_lines.specs.declared.content.content.Part.{Part}
use Rattle.lay_lines.specs.declared.content.content.Part.TheVariants.{Space, PreservedSpace, Tab, Linefeed, Text, Start, End, Atomic}
use Rattle.lay_lines.specs.declared.content.content.Stretch.{Stretch}
use Rattle.lay_lines.specs.declared.content.frame.Frame.{Frame}
use Rattle.lay_lines.specs.declared.content.pen.Pen.{Pen}
use Rattle.lay_lines.specs.Content.Pens.{over}
use Rattle.lay_units.specs.declared.length.Unit.{Unit}
use Rattle.lay_inlines.specs.declared.strokes.Stroke.{Stroke}
use Rattle.lay_inlines.specs.declared.strokes.Shown.{Shown}
use Rattle.lay_inlines.specs.Raises.{RaisesValue, raise_of, raises_after}
use Rattle.lay_inlines.specs.declared.strokes.Shown.TheVariants.{OfText, OfAtomic, Opens, Closes, Nothing}

-- the content of these stretches
abbrev pub parts_of : List Stretch → List Part
parts_of [] = []
parts_of (s ∷ ss) = s.parts ++ parts_of ss

abbrev pub stroke_of : Part → Unit → Pen → Pen → Stroke
stroke_of x raise before after = record { part = x; raise = raise; before = before; after = after }

-- each part, with how far it is raised, and the pen before it and after it
abbrev pub strokes : Frame → Pen → RaisesValue → List Part → List Stroke
strokes fr p r [] = []
strokes fr p r (x ∷ xs) = stroke_of x (raise_of r x) p (over fr p x) ∷ strokes fr (over fr p x) (raises_after r x) xs

-- text and atomic boxes, which collapsible spaces stay beside
abbrev pub is_content : Part → Bool
is_content (Space w) = false
is_content (PreservedSpace w) = true
is_content (Tab t) = true
is_content Linefeed = false
is_content (Text w) = true
is_content (Start b) = false
is_content (End b) = false
is_content (Atomic b) = true

abbrev pub has_content : List Stroke → Bool
has_content [] = false
has_content (s ∷ ss) = is_content s.part || has_content ss

-- where the pen stands on the line, where content follows it there or not
abbrev pub place : Pen → Bool → ℤ
place p followed = if followed then p.at.0 else p.solid.0

-- where a part begins and ends, where content follows it or not
abbrev pub begin_of : Stroke → Bool → ℤ
begin_of s followed = place s.before (is_content s.part || followed)

abbrev pub end_of : Stroke → Bool → ℤ
end_of s followed = place s.after followed

-- a collapsible space stays between content of its line
abbrev pub stays : Stroke → Bool → Bool
stays s followed = s.before.started && followed

-- what a part shows
abbrev pub shown_of : Part → Bool → Shown
shown_of (Space w) kept = if kept then OfText w.text else Nothing
shown_of (PreservedSpace w) kept = OfText w.text
shown_of (Tab t) kept = OfText t
shown_of Linefeed kept = Nothing
shown_of (Text w) kept = OfText w.text
shown_of (Start b) kept = Opens b.node
shown_of (End b) kept = Closes b.node
shown_of (Atomic b) kept = OfAtomic b.node
