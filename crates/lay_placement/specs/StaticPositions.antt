-- Static positions (CSS 2.2, 9.6, 10.3.7 and 10.6.4): where an absolutely positioned box would stand in flow. Its left is the
-- left content edge of the nearest block container. Its top is where an empty block would stand there, or, where the container
-- holds lines, the top of the line that has it: the one that takes the segment in which its anchor stands.
use Rattle.std.specs.Prelude.{ℕ, ◌==◌, Bool, false, List, [], ◌∷◌, take, drop, Option, Some, None, if◌then◌else◌}
use Rattle.std.specs.List.{list_any}
use Rattle.std.specs.Option.{unwrap_or}
use Rattle.lay_units.specs.declared.length.Unit.{Unit as Length}
use Rattle.lay_space.specs.declared.item.Item.{Item}
use Rattle.lay_space.specs.declared.item.Item.TheVariants as item
use Rattle.lay_space.specs.declared.segment.Segment.{Segment}
use Rattle.lay_line_items.specs.InlineSegments.{segments_in}
use Rattle.lay_lines.specs.declared.row.Ended.{Ended}
use Rattle.lay_flow.specs.Blocks.FlowPlaces.{box_place_at}
use Rattle.lay_box_tree.specs.Containing.{container_of}
use Rattle.lay_flow_boxes.specs.ContextBlocks.{content_left}
use Rattle.lay_flow_boxes.specs.PlaceInputs.{PlaceInput}
use Rattle.lay_placements.specs.declared.corner.Corner.{Corner}
use Rattle.lay_placement.specs.ContextPlaces.{ContextPlaces, rows_at}

-- the item is the anchor of the box at k
abbrev pub is_anchor_of : ℕ → Item → Bool
is_anchor_of k (item.Anchor j) = j == k
is_anchor_of k (item.Text j text mode widths) = false
is_anchor_of k (item.Atomic j mode) = false
is_anchor_of k (item.Start j takes) = false
is_anchor_of k (item.End j) = false
is_anchor_of k (item.Float j) = false

abbrev pub holds_anchor : ℕ → Segment → Bool
holds_anchor k s = list_any (is_anchor_of k) s.items

-- the top of the line that has it, of these lines, which take these segments in order
abbrev pub line_top : List Ended → List Segment → ℕ → Option Length
line_top [] segments k = None
line_top (row ∷ rows) segments k =
    if list_any (holds_anchor k) (take row.reach.count segments) then Some row.top
    else line_top rows (drop row.reach.count segments) k

-- the same for the anchor at k, in its container
abbrev pub anchor_line : PlaceInput → ContextPlaces → ℕ → Option Length
anchor_line i p k =
    line_top (rows_at p.places (container_of i.boxes k)) (segments_in i.face i.boxes (container_of i.boxes k)) k

abbrev pub static_position : PlaceInput → ContextPlaces → ℕ → Corner
static_position i p k = record {
  x = content_left p.shape.lefts i.sizes (container_of i.boxes k);
  y = unwrap_or (anchor_line i p k) (box_place_at p.places.boxes k).corner.y;
}
