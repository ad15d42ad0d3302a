-- What the code keeps of a line as it fills it: how far its first stretches come, in which room.
use Rattle.std.specs.Prelude.{◌≡◌, ℤ, List}
use Rattle.lay_units.specs.Units.{IsPosition}
use Rattle.lay_floats.specs.declared.placed.Placed.{Placed}
use Rattle.lay_lines.specs.declared.content.content.Stretch.{Stretch}
use Rattle.lay_lines.specs.declared.content.frame.Frame.{Frame}
use Rattle.lay_lines.specs.Content.Pens.{pen_to, PenFits}
use Rattle.lay_lines.specs.declared.reach.Reach.{Reach}
use Rattle.lay_lines.specs.Meeting.{IsLineRoom}

-- the pen is that of the first stretches, in a room with this left edge
pub record IsPen (fr : Frame) (ss : List Stretch) (r : Reach) : Type 0 where
  pub pen : r.pen ≡ pen_to fr r.start.0 ss r.count
  pub fits : PenFits r.pen

-- and the room is that which these floats leave
pub record IsReach (fr : Frame) (y : ℤ) (ss : List Stretch) (floats : List Placed) (r : Reach) : Type 0 where
  pub pen_is : IsPen fr ss r
  pub room : IsLineRoom fr y floats r.start.0 r.end.0
  pub start : IsPosition r.start.0
  pub end : IsPosition r.end.0
