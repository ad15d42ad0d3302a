-- Segments of content, measured (CSS 2.2, 9.4.2 and 9.5). A float in a segment is met at the segment's end. Where a segment
-- surely begins a line, as the first of its container does and one after a preserved linefeed, the floats before its
-- content are met before it.
use Rattle.std.specs.Prelude.{Bool, true, false, ◌&&◌, not, List, [], ◌∷◌, ◌++◌, if◌then◌else◌}
use Rattle.lay_space.specs.declared.item.Item.{Item}
use Rattle.lay_space.specs.declared.item.Item.TheVariants as item
use Rattle.lay_space.specs.declared.segment.Segment.{Segment}
use Rattle.lay_lines.specs.declared.content.content.LineFloat.{LineFloat}
use Rattle.lay_lines.specs.declared.content.content.Part.{Part}
use Rattle.lay_lines.specs.declared.content.content.Part.TheVariants as part
use Rattle.lay_lines.specs.declared.content.content.Stretch.{Stretch}
use Rattle.lay_line_measures.specs.declared.container.Container.{Container}
use Rattle.lay_line_measures.specs.BoxMeasuresValue.{BoxMeasuresValue}
use Rattle.lay_line_measures.specs.AtomicBoxes.{atomic_at}
use Rattle.lay_line_measures.specs.InlineBoxes.{start_at, end_at}
use Rattle.lay_line_measures.specs.LineFloats.{float_at}
use Rattle.lay_line_measures.specs.TextParts.{text_parts}

-- What an item is in a line. An anchor takes no room, and a float stands beside the line.
abbrev pub parts_at : BoxMeasuresValue → Item → List Part
parts_at m (item.Text k text mode widths) = text_parts (record { node = k; mode = mode }) text widths
parts_at m (item.Start k takes) = part.Start (start_at m k) ∷ []
parts_at m (item.End k) = part.End (end_at m k) ∷ []
parts_at m (item.Atomic k mode) = part.Atomic (atomic_at m k) ∷ []
parts_at m (item.Float k) = []
parts_at m (item.Anchor k) = []

abbrev pub parts_of : BoxMeasuresValue → List Item → List Part
parts_of m [] = []
parts_of m (x ∷ xs) = parts_at m x ++ parts_of m xs

-- whether an item is content that a float can stand after: some text, an atomic box, or the start of an inline box with a
-- left margin, border or padding that isn't 0
abbrev pub is_line_content : Item → Bool
is_line_content (item.Text k text mode []) = false
is_line_content (item.Text k text mode (w ∷ ws)) = true
is_line_content (item.Atomic k mode) = true
is_line_content (item.Start k takes) = takes
is_line_content (item.End k) = false
is_line_content (item.Float k) = false
is_line_content (item.Anchor k) = false

abbrev pub floats_at : BoxMeasuresValue → Container → Item → List LineFloat
floats_at m c (item.Float k) = float_at m c k ∷ []
floats_at m c (item.Text k text mode widths) = []
floats_at m c (item.Start k takes) = []
floats_at m c (item.End k) = []
floats_at m c (item.Atomic k mode) = []
floats_at m c (item.Anchor k) = []

-- the floats that are met before the content, where `ahead` says that they stand before all of it where a line begins
abbrev pub heads_of : BoxMeasuresValue → Container → Bool → List Item → List LineFloat
heads_of m c ahead [] = []
heads_of m c ahead (x ∷ xs) = (if ahead then floats_at m c x else []) ++ heads_of m c (ahead && not (is_line_content x)) xs

-- and the others
abbrev pub floats_of : BoxMeasuresValue → Container → Bool → List Item → List LineFloat
floats_of m c ahead [] = []
floats_of m c ahead (x ∷ xs) = (if ahead then [] else floats_at m c x) ++ floats_of m c (ahead && not (is_line_content x)) xs

-- a segment, of which `begins` says whether it surely begins a line
abbrev pub stretch_of : BoxMeasuresValue → Container → Bool → Segment → Stretch
stretch_of m c begins s = record {
  heads = heads_of m c begins s.items;
  parts = parts_of m s.items;
  floats = floats_of m c begins s.items;
  forced = s.forced;
}

abbrev pub stretches_of : BoxMeasuresValue → Container → Bool → List Segment → List Stretch
stretches_of m c begins [] = []
stretches_of m c begins (s ∷ ss) = stretch_of m c begins s ∷ stretches_of m c s.forced ss
