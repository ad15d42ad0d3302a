-- Whether content has a line that is seen. 9.4.2: "Line boxes that contain no text, no preserved white space, no inline
-- elements with non-zero margins, padding, or borders, and no other in-flow content (such as images, inline blocks or
-- inline tables), and do not end with a preserved newline must be treated as zero-height" and as not there.
use Rattle.std.specs.Prelude.{Bool, true, false, List}
use Rattle.std.specs.List.{list_any}
use Rattle.lay_lines.specs.declared.content.content.Part.{Part}
use Rattle.lay_lines.specs.declared.content.content.Part.TheVariants as part
use Rattle.lay_lines.specs.declared.content.content.Stretch.{Stretch}

abbrev pub is_seen : Part → Bool
is_seen (part.Space a) = false
is_seen (part.PreservedSpace a) = true
is_seen (part.Tab t) = true
is_seen part.Linefeed = true
is_seen (part.Text a) = true
is_seen (part.Start b) = b.seen
is_seen (part.End b) = b.seen
is_seen (part.Atomic a) = true

abbrev pub has_seen_line : List Stretch → Bool
has_seen_line stretches = list_any (λ s. list_any is_seen s.parts) stretches
