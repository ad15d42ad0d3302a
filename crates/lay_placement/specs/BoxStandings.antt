-- Where the boxes of one formatting context stand. They come to rest where the flow puts them (CSS 2.2, 9.4.1 and 9.5), those
-- that lines hold as atomic boxes where these put them (9.4.2), and anchors at their static positions (9.6). From there
-- relative positioning moves them (9.4.3), which changes nothing but corners. What is known of the box of an inner formatting
-- context is its own box.
use Rattle.std.specs.Prelude.{ℕ, zero, suc, ◌+ℤ◌, List, [], ◌∷◌, ◌++◌, length, if◌then◌else◌}
use Rattle.lay_units.specs.declared.length.Unit.{Unit as Length}
use Rattle.lay_units.specs.Lengths.{no_length}
use Rattle.lay_box_tree.specs.Roles.{role_at}
use Rattle.lay_flow.specs.Blocks.FlowPlaces.{FlowPlacesValue, box_place_at}
use Rattle.lay_sizes.specs.OwnBoxes.{own_box_at}
use Rattle.lay_box_tree.specs.ContextBoxes.{is_inner}
use Rattle.lay_abspos.specs.declared.relative.offset.Offset.{Offset}
use Rattle.lay_abspos.specs.Relative.Moves.{move_at}
use Rattle.lay_flow_boxes.specs.ContextBlocks.{is_anchor}
use Rattle.lay_flow_boxes.specs.PlaceInputs.{PlaceInput}
use Rattle.lay_placements.specs.declared.corner.Corner.{Corner}
use Rattle.lay_placements.specs.declared.standing.Standing.{Standing}
use Rattle.lay_placement.specs.AtomicCorners.{corner_among}
use Rattle.lay_placement.specs.ContextPlaces.{ContextPlaces}
use Rattle.lay_placement.specs.OnLines.{on_lines_to}
use Rattle.lay_placement.specs.StaticPositions.{static_position}

-- where the flow puts the border box of the box at k
abbrev pub corner_in_flow : FlowPlacesValue → ℕ → Corner
corner_in_flow places k = record { x = (box_place_at places.boxes k).corner.x; y = (box_place_at places.boxes k).corner.y }

-- the same, or where lines put it
abbrev pub corner_of_box : PlaceInput → ContextPlaces → ℕ → Corner
corner_of_box i p k = corner_among (on_lines_to i p (length i.boxes)) k (corner_in_flow p.places k)

-- where the border box of the box at k rests
abbrev pub resting_corner : PlaceInput → ContextPlaces → ℕ → Corner
resting_corner i p k = if is_anchor (role_at i.boxes k) then static_position i p k else corner_of_box i p k

-- a corner that is moved so far
abbrev pub moved_corner : Offset → Corner → Corner
moved_corner o c = record { x = record { 0 = o.right.0 +ℤ c.x.0 }; y = record { 0 = o.down.0 +ℤ c.y.0 } }

-- the height of its border box; an anchor has none
abbrev pub border_height : PlaceInput → ContextPlaces → ℕ → Length
border_height i p k =
    if is_anchor (role_at i.boxes k) then no_length
    else (if is_inner i.boxes k then (own_box_at i.inner k).height else (box_place_at p.places.boxes k).height)

abbrev pub standing_of_box : PlaceInput → ContextPlaces → ℕ → Standing
standing_of_box i p k = record {
  corner = moved_corner (move_at p.moves k) (resting_corner i p k);
  height = border_height i p k;
  shift = no_length;
}

-- those of the first n boxes, in order
abbrev pub standings_to : PlaceInput → ContextPlaces → ℕ → List Standing
standings_to i p zero = []
standings_to i p (suc k) = standings_to i p k ++ standing_of_box i p k ∷ []
