-- The lines of a block container, from a top downward between two content edges, beside the floats that stand already
-- (CSS 2.2, 9.4.2 and 9.5): the rows, the places of the floats that they met, in order, where what follows begins, and
-- all floats that stand afterwards.
use Rattle.std.specs.Prelude.{◌≡◌, ◌*◌, ◌^◌, ℕ, ℤ, pos, List, [], map, All}
use Rattle.lay_units.specs.declared.length.Unit.{Unit}
use Rattle.lay_floats.specs.declared.placed.Placed.{Placed}
use Rattle.lay_floats.specs.declared.requests.NodePlace.{NodePlace}
use Rattle.lay_floats.specs.Within.{IsWithin, BoxWithin}
use Rattle.lay_lines.specs.declared.content.frame.Frame.{Frame}
use Rattle.lay_lines.specs.Content.LineContents.{LineContentValue, lines_weight}
use Rattle.lay_lines.specs.declared.row.Ended.{Ended}
use Rattle.lay_lines.specs.declared.laying.Lines.{Lines}
use Rattle.lay_lines.specs.Meeting.{none_met}
use Rattle.lay_lines.specs.Rows.{Position, Laid, AreRows, position_of, ended_of}

pub record LinesValue : Type 0 where
  pub rows : List Ended
  pub places : List NodePlace
  pub end : Unit
  pub floats : List Placed

-- the answer, and the floats after it
abbrev pub lines_with_floats : Lines → List Placed → LinesValue
lines_with_floats out floats = record { rows = out.rows; places = out.places; end = out.end; floats = floats }

abbrev pub frame_of : LineContentValue → Unit → Unit → Frame
frame_of c left right = record { left = left; right = right; strut = c.strut; indent = c.indent; tab = c.tab }

abbrev pub first_position : LineContentValue → Unit → Unit → ℤ → List Placed → Position
first_position c left right top floats = position_of (frame_of c left right) top [] c.stretches (none_met floats)

pub record AreLines (c : LineContentValue) (left right : Unit) (top : ℤ) (before : List Placed) (v : LinesValue) : Type 0 where
  pub laid : Laid
  pub are : AreRows (first_position c left right top before) laid
  pub rows : map ended_of laid.rows ≡ v.rows
  pub places : laid.position.state.places ≡ v.places
  pub end : laid.position.from ≡ v.end.0
  pub floats : laid.position.state.floats ≡ v.floats

-- how much further than what is given lines reach at most: 2^36 units for each weight of the content
abbrev pub growth : LineContentValue → ℕ
growth c = 2 ^ 36 * lines_weight c

-- a line, with its room, its extent and the baselines of its parts
pub record RowWithin (m : ℤ) (e : Ended) : Type 0 where
  pub top : IsWithin m e.top.0
  pub start : IsWithin m e.reach.start.0
  pub end : IsWithin m e.reach.end.0
  pub above : IsWithin (pos (2 ^ 59)) e.extent.above.0
  pub below : IsWithin (pos (2 ^ 59)) e.extent.below.0
  pub shifts : All (λ (s : Unit). IsWithin (pos (2 ^ 60)) s.0) e.shifts
  pub to : IsWithin m e.to.0

pub record NodePlaceWithin (m : ℤ) (p : NodePlace) : Type 0 where
  pub x : IsWithin m p.place.x.0
  pub y : IsWithin m p.place.y.0

-- all that stands is at most m units from the origin
pub record LinesWithin (m : ℤ) (v : LinesValue) : Type 0 where
  pub rows : All (RowWithin m) v.rows
  pub places : All (NodePlaceWithin m) v.places
  pub end : IsWithin m v.end.0
  pub floats : All (BoxWithin m) v.floats
