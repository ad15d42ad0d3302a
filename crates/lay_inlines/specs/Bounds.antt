-- How far from the origin lines and the areas of their boxes are at most, in units. What is made of them is then below
-- 2^63.
use Rattle.std.specs.Prelude.{◌≡◌, ℤ, pos, ◌^◌, ◌+◌, List, [], ◌∷◌, All}
use Rattle.lay_units.specs.declared.length.Unit.{Unit}
use Rattle.lay_floats.specs.Within.{IsWithin}
use Rattle.lay_lines.specs.declared.content.content.InlineArea.{InlineArea}
use Rattle.lay_lines.specs.declared.content.content.Part.{Part}
use Rattle.lay_lines.specs.declared.content.frame.Frame.{Frame}
use Rattle.lay_lines.specs.declared.content.pen.Pen.{Pen}
use Rattle.lay_lines.specs.Content.Pens.{over}
use Rattle.lay_lines.specs.declared.row.Ended.{Ended}
use Rattle.lay_inlines.specs.declared.lines.Container.{Container}
use Rattle.lay_inlines.specs.declared.spans.Span.{Span}
use Rattle.lay_inlines.specs.declared.strokes.Stroke.{Stroke}
use Rattle.lay_inlines.specs.Raises.{RaisesValue}

-- an extent of a line, or a margin
abbrev pub IsLineExtent : ℤ → Type 0
IsLineExtent v = IsWithin (pos (2 ^ 59)) v

-- a shift of a part of a line
abbrev pub RaiseWithin : Unit → Type 0
RaiseWithin raise = IsWithin (pos (2 ^ 60)) raise.0

pub record RowWithin (row : Ended) : Type 0 where
  pub top : IsWithin (pos (2 ^ 61)) row.top.0
  pub start : IsWithin (pos (2 ^ 61)) row.reach.start.0
  pub end : IsWithin (pos (2 ^ 61)) row.reach.end.0
  pub above : IsLineExtent row.extent.above.0
  pub below : IsLineExtent row.extent.below.0
  pub shifts : All RaiseWithin row.shifts

pub record AreaWithin (a : InlineArea) : Type 0 where
  pub above : IsWithin (pos (2 ^ 60)) a.above.0
  pub below : IsWithin (pos (2 ^ 60)) a.below.0
  pub margin_left : IsLineExtent a.margin_left.0
  pub margin_right : IsLineExtent a.margin_right.0

pub record GeometryWithin (c : Container) (rs : List Ended) (bs : List InlineArea) : Type 0 where
  pub left : IsWithin (pos (2 ^ 50)) c.left.0
  pub rows : All RowWithin rs
  pub areas : All AreaWithin bs

-- places of the pen, and then those of edges
abbrev pub IsPlace : ℤ → Type 0
IsPlace v = IsWithin (pos (2 ^ 61 + 2 ^ 59)) v

abbrev pub IsEdge : ℤ → Type 0
IsEdge v = IsWithin (pos (2 ^ 61 + 2 ^ 60)) v

pub record PenWithin (p : Pen) : Type 0 where
  pub at : IsPlace p.at.0
  pub visible : IsPlace p.visible.0
  pub solid : IsPlace p.solid.0

-- the pens before, between and after these parts
abbrev pub PensWithin : Frame → Pen → List Part → Type 0
PensWithin fr p [] = PenWithin p
PensWithin fr p (x ∷ xs) = PenWithin p × PensWithin fr (over fr p x) xs

pub record RaisesWithin (r : RaisesValue) : Type 0 where
  pub open_boxes : All RaiseWithin r.open_boxes
  pub coming : All RaiseWithin r.coming

pub record StrokeWithin (s : Stroke) : Type 0 where
  pub raise : RaiseWithin s.raise
  pub before : PenWithin s.before
  pub after : PenWithin s.after

pub record SpanWithin (s : Span) : Type 0 where
  pub raise : RaiseWithin s.raise
  pub from : IsEdge s.from.0
  pub to : IsEdge s.to.0

-- where the pen's place 0 is, a line's baseline, and that of something on it
abbrev pub IsOrigin : ℤ → Type 0
IsOrigin v = IsWithin (pos (2 ^ 62 + 2 ^ 59 + 2 ^ 52)) v

abbrev pub IsLineBaseline : ℤ → Type 0
IsLineBaseline v = IsWithin (pos (2 ^ 61 + 2 ^ 59)) v

abbrev pub IsRaise : ℤ → Type 0
IsRaise v = IsWithin (pos (2 ^ 61 + 2 ^ 60 + 2 ^ 59)) v

pub record LineWithin (c : Container) (fr : Frame) (r : Ended) (bs : List InlineArea) : Type 0 where
  pub left : IsWithin (pos (2 ^ 50)) c.left.0
  pub same_left : fr.left ≡ c.left
  pub row : RowWithin r
  pub areas : All AreaWithin bs
