-- The lines of a block container, one under the other (CSS 2.2, 9.4.2). They divide its content. A line in which
-- nothing is seen has no height, and isn't the first line, which `text-indent` is for (16.1).
use Rattle.std.specs.Prelude.{ℕ, ◌≡◌, ◌<◌, ℤ, pos, ◌+ℤ◌, Bool, ◌||◌, List, [], ◌∷◌, ◌++◌, length, drop, slice_get, Some, if◌then◌else◌}
use Rattle.lay_units.specs.Units.{IsPosition}
use Rattle.lay_units.specs.declared.length.Unit.{Unit}
use Rattle.lay_valign.specs.declared.parts.LineShape.{LineShape}
use Rattle.lay_valign.specs.declared.parts.Part.{Part as LinePart}
use Rattle.lay_valign.specs.LineShape.{IsShape}
use Rattle.lay_valign.specs.PartsFit.{PartsFit}
use Rattle.lay_lines.specs.declared.content.content.Stretch.{Stretch}
use Rattle.lay_lines.specs.declared.content.content.InlineStart.{InlineStart}
use Rattle.lay_lines.specs.declared.content.frame.Extent.{Extent}
use Rattle.lay_lines.specs.declared.content.frame.Frame.{Frame}
use Rattle.lay_lines.specs.Content.LineContents.{boxes_of}
use Rattle.lay_lines.specs.Content.Pens.{pen_to, seen_to}
use Rattle.lay_lines.specs.Content.Extents.{any_shows, reading_to, parts_to, shape_of, height_of}
use Rattle.lay_lines.specs.declared.reach.Reach.{Reach}
use Rattle.lay_lines.specs.declared.row.Ended.{Ended}
use Rattle.lay_lines.specs.Meeting.{State, Chain, IsLineRoom, Meets, CanMeetAll, RoomsFit, FrameFits}
use Rattle.lay_lines.specs.Filling.{IsTop, Takes, Fills, CanFill}

-- where a line begins: its frame, its highest top, the inline boxes that are open, the content that is left,
-- and the floats
pub record Position : Type 0 where
  pub frame : Frame
  pub from : ℤ
  pub open_boxes : List InlineStart
  pub rest : List Stretch
  pub state : State

-- a line: the floats before its content, its top, how far what it takes comes in its room, the floats then, how far
-- the baselines of its parts stand above the strut's, its extent, whether it is seen, where the next line begins, and the
-- floats after those that waited
pub record Row : Type 0 where
  pub headed : State
  pub top : ℤ
  pub reach : Reach
  pub filled : State
  pub shifts : List Unit
  pub extent : Extent
  pub seen : Bool
  pub to : ℤ
  pub after : State

abbrev pub is_seen : Position → ℕ → Bool
is_seen p count = any_shows p.open_boxes || seen_to p.frame p.rest count

abbrev pub parts_of : Position → ℕ → List LinePart
parts_of p count = parts_to p.frame p.open_boxes p.rest count

abbrev pub emptied : State → State
emptied st = record { floats = st.floats; places = st.places; put_off = [] }

-- a line, until the floats that wait are placed
pub record IsFilled (p : Position) (r : Row) : Type 0 where
  pub first : Stretch
  pub is : slice_get p.rest 0 ≡ Some first
  pub heads : Meets p.frame p.from p.rest 0 first.heads p.state r.headed
  pub top_is : IsTop p.frame p.from p.rest r.headed.floats r.top
  pub count_is : Takes p.frame r.top p.rest r.headed r.reach.count
  pub filled_is : Fills p.frame r.top p.rest r.reach.count r.headed r.filled
  pub room_is : IsLineRoom p.frame r.top r.filled.floats r.reach.start.0 r.reach.end.0
  pub pen_is : r.reach.pen ≡ pen_to p.frame r.reach.start.0 p.rest r.reach.count
  pub shape_is : IsShape (parts_of p r.reach.count) (shape_of r.shifts r.extent)
  pub seen_is : r.seen ≡ is_seen p r.reach.count
  pub to_is : r.to ≡ (if r.seen then (r.top +ℤ height_of r.extent) else p.from)

pub record IsRow (p : Position) (r : Row) : Type 0 where
  pub filled : IsFilled p r
  pub later : Meets p.frame r.to p.rest 0 r.filled.put_off (emptied r.filled) r.after

-- the first line that is seen has the indent
abbrev pub next_frame : Frame → Bool → Frame
next_frame fr seen = record {
  left = fr.left;
  right = fr.right;
  strut = fr.strut;
  indent = record { 0 = if seen then pos 0 else fr.indent.0 };
  tab = fr.tab;
}

abbrev pub after_row : Position → Row → Position
after_row p r = record {
  frame = next_frame p.frame r.seen;
  from = r.to;
  open_boxes = (reading_to p.frame p.open_boxes p.rest r.reach.count).open_boxes;
  rest = drop r.reach.count p.rest;
  state = r.after;
}

-- the lines so far, and where the next one begins
pub record Laid : Type 0 where
  pub rows : List Row
  pub position : Position

pub record AddsRow (k : ℕ) (a b : Laid) : Type 0 where
  pub row : Row
  pub is : IsRow a.position row
  pub after : b ≡ record { rows = a.rows ++ row ∷ []; position = after_row a.position row }

abbrev pub RowsTo : ℕ → Laid → Laid → Type 0
RowsTo n a b = Chain AddsRow n a b

-- the lines of all content from a position
pub record AreRows (start : Position) (end : Laid) : Type 0 where
  pub count : ℕ
  pub rows : RowsTo count (record { rows = []; position = start }) end
  pub all : end.position.rest ≡ []

-- no inline box is open, and none starts and no atomic box stands in what is left
pub record OpensNone (open_boxes : List InlineStart) (rest : List Stretch) : Type 0 where
  pub none : open_boxes ≡ []
  pub no_boxes : boxes_of rest ≡ 0

-- all that a line can give is within bounds
pub record CanRow (p : Position) : Type 0 where
  pub frame : FrameFits p.frame
  pub from : IsPosition p.from
  pub heads : (s : Stretch) → slice_get p.rest 0 ≡ Some s → CanMeetAll p.frame p.from p.rest 0 s.heads p.state
  pub rooms : (s : Stretch) (headed : State) → slice_get p.rest 0 ≡ Some s → Meets p.frame p.from p.rest 0 s.heads p.state headed
      → RoomsFit p.frame headed.floats p.rest
  pub fills : (s : Stretch) (headed : State) (top : ℤ) → slice_get p.rest 0 ≡ Some s → Meets p.frame p.from p.rest 0 s.heads p.state headed
      → IsTop p.frame p.from p.rest headed.floats top → CanFill p.frame top p.rest headed
  pub parts : (count : ℕ) → PartsFit (parts_of p count)
  pub height : (count : ℕ) (shape : LineShape) → IsShape (parts_of p count) shape → IsPosition (shape.above.0 +ℤ shape.below.0)
  pub to : (r : Row) → IsFilled p r → IsPosition r.to
  pub later : (r : Row) → IsFilled p r → CanMeetAll p.frame r.to p.rest 0 r.filled.put_off (emptied r.filled)

abbrev pub CanLay : Position → Type 0
CanLay start =
    (n : ℕ) (mid : Laid) → RowsTo n (record { rows = []; position = start }) mid → 0 < length mid.position.rest → CanRow mid.position

abbrev pub position_of : Frame → ℤ → List InlineStart → List Stretch → State → Position
position_of fr from bs ss st = record { frame = fr; from = from; open_boxes = bs; rest = ss; state = st }

-- the line of which the code keeps this
abbrev pub line_row : Ended → State → State → State → Row
line_row e headed filled after =
    record {
      headed = headed;
      top = e.top.0;
      reach = e.reach;
      filled = filled;
      shifts = e.shifts;
      extent = e.extent;
      seen = e.seen;
      to = e.to.0;
      after = after;
    }

-- what the code answers of a line
abbrev pub ended_of : Row → Ended
ended_of r =
    record { top = record { 0 = r.top }; reach = r.reach; shifts = r.shifts; extent = r.extent; seen = r.seen; to = record { 0 = r.to } }
