-- What stands in the lines of a block container, by its widths (CSS 2.2, 9.4.2, 16.6 and 16.6.1): the grapheme
-- clusters of its texts, the starts and ends of its inline boxes with their edges, atomic boxes and floats with what
-- they take, and between them the places where lines may or have to break.
use Rattle.std.specs.Prelude.{ℕ, ◌+◌, ◌==◌, Bool, false, ◌&&◌, ◌||◌}
use Rattle.std.specs.Prelude.{List, [], ◌∷◌, ◌++◌, Option, Some, None, slice_get, if◌then◌else◌}
use Rattle.lay_units.specs.declared.length.Unit.{Unit as Length}
use Rattle.lay_units.specs.declared.records.ClusterWidth.{ClusterWidth}
use Rattle.lay_units.specs.Lengths.{is_nonzero, no_length}
use Rattle.lay_style.specs.LengthValues.{size_of}
use Rattle.lay_style.specs.declared.style.Style.{Style}
use Rattle.lay_box_tree.specs.declared.box_tree.BoxKind.{BoxKind}
use Rattle.lay_box_tree.specs.declared.box_tree.BoxKind.TheVariants as kind
use Rattle.lay_box_tree.specs.declared.box_tree.BoxNode.{BoxNode}
use Rattle.lay_box_tree.specs.declared.inline_part.InlinePart.{InlinePart}
use Rattle.lay_space.specs.declared.item.Item.{Item}
use Rattle.lay_space.specs.declared.item.Item.TheVariants as item
use Rattle.lay_space.specs.declared.item.Mode.{Mode}
use Rattle.lay_space.specs.declared.segment.Segment.{Segment}
use Rattle.lay_space.specs.declared.tokens.ClusterKind.{ClusterKind}
use Rattle.lay_space.specs.declared.tokens.ClusterKind.TheVariants.{CollapsibleSpace, PreservedSpace, Linefeed, Tab, ZeroWidthSpace, Other}
use Rattle.lay_space.specs.Modes.{wraps}
use Rattle.lay_space.specs.Tokens.{kind_of, next_place}
use Rattle.lay_measure.specs.Contributions.{around_border, bounded_width, left_edges, margin_box, margin_or_zero, right_edges, size_or_zero}
use Rattle.lay_measure.specs.MeasureInValue.{MeasureInValue, inner_at, no_widths, part_at}
use Rattle.lay_measure.specs.ReplacedWidths.{replaced_width}
use Rattle.lay_measure.specs.declared.line_parts.LinePart.{LinePart}
use Rattle.lay_measure.specs.declared.line_parts.LinePart.TheVariants as part
use Rattle.lay_measure.specs.declared.preferred_widths.PreferredWidths.{PreferredWidths}

-- What a box with these preferred widths takes of those around it. A replaced element has its own width. The
-- preferred widths of the wrapper of a table are those of its border box: `width` and its bounds act on the table in
-- it (17.4, 17.5.2).
abbrev pub contribution_as : BoxKind → Style → PreferredWidths → PreferredWidths
contribution_as (kind.Replaced w h inline) s own = record {
  minimum = margin_box s (replaced_width w h s);
  preferred = margin_box s (replaced_width w h s);
}
contribution_as kind.Wrapper s own = record { minimum = around_border s own.minimum; preferred = around_border s own.preferred }
contribution_as kind.InlineWrapper s own = record { minimum = around_border s own.minimum; preferred = around_border s own.preferred }
contribution_as _ s own = record {
  minimum = margin_box s (bounded_width s own.minimum);
  preferred = margin_box s (bounded_width s own.preferred);
}

abbrev pub contribution : BoxNode → PreferredWidths → PreferredWidths
contribution b own = contribution_as b.kind b.style own

-- what the atomic box or the float at k takes, which is a replaced element, or the box of an inner context
abbrev pub contribution_in : MeasureInValue → ℕ → Option BoxNode → PreferredWidths
contribution_in m k None = no_widths
contribution_in m k (Some b) = contribution b (inner_at m k)

abbrev pub contribution_at : MeasureInValue → ℕ → PreferredWidths
contribution_at m k = contribution_in m k (slice_get m.boxes k)

-- 9.4.2 speaks of inline elements "with non-zero margins, padding, or borders"
abbrev pub has_top_edges : Style → Bool
has_top_edges s =
    is_nonzero (margin_or_zero s.margin.top).0 || is_nonzero (size_of s.border.width.top.0).0 || is_nonzero (size_or_zero s.padding.top).0

abbrev pub has_bottom_edges : Style → Bool
has_bottom_edges s =
    is_nonzero (margin_or_zero s.margin.bottom).0 || is_nonzero (size_of s.border.width.bottom.0).0
    || is_nonzero (size_or_zero s.padding.bottom).0

abbrev pub has_vertical_edges : Style → Bool
has_vertical_edges s = has_top_edges s || has_bottom_edges s

abbrev pub has_left_edges : Style → Bool
has_left_edges s =
    is_nonzero (margin_or_zero s.margin.left).0 || is_nonzero (size_of s.border.width.left.0).0
    || is_nonzero (size_or_zero s.padding.left).0

abbrev pub has_right_edges : Style → Bool
has_right_edges s =
    is_nonzero (margin_or_zero s.margin.right).0 || is_nonzero (size_of s.border.width.right.0).0
    || is_nonzero (size_or_zero s.padding.right).0

-- where an inline box starts: the left edges stand on its first part
abbrev pub start_of : Style → InlinePart → LinePart
start_of s p =
    part.Edge (if p.first then record { 0 = left_edges s } else no_length) (has_vertical_edges s || (p.first && has_left_edges s))

-- where it ends: the right edges stand on its last part
abbrev pub end_of : Style → InlinePart → LinePart
end_of s p = part.Edge (if p.last then record { 0 = right_edges s } else no_length) (has_vertical_edges s || (p.last && has_right_edges s))

abbrev pub start_in : MeasureInValue → ℕ → Option BoxNode → LinePart
start_in m k None = part.Edge no_length false
start_in m k (Some b) = start_of b.style (part_at m k)

abbrev pub end_in : MeasureInValue → ℕ → Option BoxNode → LinePart
end_in m k None = part.Edge no_length false
end_in m k (Some b) = end_of b.style (part_at m k)

-- A cluster under this `white-space`. A collapsible space goes at the start and the end of a line. A preserved one
-- counts, but at the end of a line where white space wraps. A preserved linefeed has no width; of CR LF, a cluster,
-- the CR is a character.
abbrev pub cluster_part : Mode → ClusterKind → Bool → Length → LinePart
cluster_part m CollapsibleSpace lone width = part.Space width
cluster_part m PreservedSpace lone width = if wraps m then part.HangingSpace width else part.Cluster width
cluster_part m Linefeed lone width = if lone then part.Linefeed else part.Cluster width
cluster_part m Tab lone width = part.Tab
cluster_part m ZeroWidthSpace lone width = part.Cluster width
cluster_part m Other lone width = part.Cluster width

-- the cluster of a text that begins at this place, where the next one begins at `to`
abbrev pub part_between : Mode → List ℕ → ClusterWidth → ℕ → LinePart
part_between m text w to = cluster_part m (kind_of m text w.place to) (to == w.place + 1) w.width

abbrev pub text_parts : Mode → List ℕ → List ClusterWidth → List LinePart
text_parts m text [] = []
text_parts m text (w ∷ ws) = part_between m text w (next_place text ws) ∷ text_parts m text ws

abbrev pub line_parts_of_item : MeasureInValue → Item → List LinePart
line_parts_of_item m (item.Text k text mode widths) = text_parts mode text widths
line_parts_of_item m (item.Start k takes) = start_in m k (slice_get m.boxes k) ∷ []
line_parts_of_item m (item.End k) = end_in m k (slice_get m.boxes k) ∷ []
line_parts_of_item m (item.Atomic k mode) = part.Atomic (contribution_at m k) ∷ []
line_parts_of_item m (item.Float k) = part.Float (contribution_at m k) ∷ []
line_parts_of_item m (item.Anchor k) = []

abbrev pub parts_of : MeasureInValue → List Item → List LinePart
parts_of m [] = []
parts_of m (x ∷ xs) = line_parts_of_item m x ++ parts_of m xs

-- the content of a container with these segments, with the breaks between them
abbrev pub line_parts : MeasureInValue → List Segment → List LinePart
line_parts m [] = []
line_parts m (s ∷ ss) = parts_of m s.items ++ part.Break s.forced ∷ line_parts m ss
