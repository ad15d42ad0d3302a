-- Where the boxes of one formatting context stand, counted from the corner of its own border box (CSS 2.2, 9.4.1 to 9.4.3 and
-- 9.5): what they are to its block flow, where that puts them, and by how much they are moved from there.
use Rattle.std.specs.Prelude.{ℕ, List, [], slice_index_or}
use Rattle.lay_units.specs.declared.length.Unit.{Unit as Length}
use Rattle.lay_line_measures.specs.BoxMeasuresValue.{BoxMeasuresValue}
use Rattle.lay_lines.specs.declared.row.Ended.{Ended}
use Rattle.lay_flow.specs.Blocks.FlowPlaces.{FlowPlacesValue, IsFlowOf, box_place_at}
use Rattle.lay_abspos.specs.declared.relative.offset.Offset.{Offset}
use Rattle.lay_abspos.specs.Relative.Moves.{HasMoves}
use Rattle.lay_flow_boxes.specs.FlowShapes.{FlowShape, IsFlowShape, measures_in}
use Rattle.lay_flow_boxes.specs.PlaceInputs.{PlaceInput}

pub record ContextPlaces : Type 0 where
  -- the boxes as block flow takes them
  pub shape : FlowShape
  -- the corners and the heights of border boxes, and the lines of each box
  pub places : FlowPlacesValue
  -- by how much relative positioning moves them
  pub moves : List Offset

-- what the content of lines is measured by
abbrev pub measures_of : PlaceInput → ContextPlaces → BoxMeasuresValue
measures_of i p = measures_in i p.shape.parts

-- these are the places
pub record HasPlaces (i : PlaceInput) (p : ContextPlaces) : Type 0 where
  pub is_shape : IsFlowShape i p.shape
  pub is_flow : IsFlowOf p.shape.flow_boxes p.places
  pub has_moves : HasMoves i.boxes i.sizes p.moves

-- the lines of the box at k
abbrev pub rows_at : FlowPlacesValue → ℕ → List Ended
rows_at places k = slice_index_or places.lines k []

-- the height of its own border box
abbrev pub own_height : ContextPlaces → Length
own_height p = (box_place_at p.places.boxes 0).height
