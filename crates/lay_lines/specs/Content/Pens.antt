-- How far the content of a line has come after some of it (CSS 2.2, 9.4.2 and 16.6). Places are counted from
-- the left content edge of the container, since tab stops are. A collapsible space at the start of a line is
-- removed, and a space at its end doesn't count for what fits.
use Rattle.std.specs.Prelude.{ℕ, zero, suc, ℤ, pos, ◌+ℤ◌, ◌-ℤ◌, Bool, true, false}
use Rattle.std.specs.Prelude.{◌||◌, if◌then◌else◌, List, [], ◌∷◌, Option, Some, None, slice_get, ◌≡◌}
use Rattle.lay_units.specs.Units.{IsPosition}
use Rattle.lay_units.specs.TabStops.{next_stop}
use Rattle.lay_lines.specs.declared.content.content.Part.{Part}
use Rattle.lay_lines.specs.declared.content.content.Part.TheVariants.{Space, PreservedSpace, Tab, Linefeed, Text, Start, End, Atomic}
use Rattle.lay_lines.specs.declared.content.content.Stretch.{Stretch}
use Rattle.lay_lines.specs.declared.content.frame.Frame.{Frame}
use Rattle.lay_lines.specs.declared.content.pen.Pen.{Pen}

-- the height of the container's strut (10.8.1), over which floats are beside a line
abbrev pub strut_height : Frame → ℤ
strut_height fr = fr.strut.above.0 +ℤ fr.strut.below.0

-- no content yet
abbrev pub blank : ℤ → Pen
blank start = record {
  at = record { 0 = start };
  visible = record { 0 = start };
  solid = record { 0 = start };
  started = false;
  seen = false;
}

-- content reaches to here
abbrev pub went : ℤ → Pen
went to = record {
  at = record { 0 = to };
  visible = record { 0 = to };
  solid = record { 0 = to };
  started = true;
  seen = true;
}

-- an edge of an inline box, which takes its room before and after spaces alike
abbrev pub moved : Pen → ℤ → Bool → Pen
moved p w seen = record {
  at = record { 0 = p.at.0 +ℤ w };
  visible = record { 0 = p.visible.0 +ℤ w };
  solid = record { 0 = p.solid.0 +ℤ w };
  started = p.started;
  seen = p.seen || seen;
}

-- a collapsible space is gone at the start of a line, and it counts where something follows
abbrev pub spaced : Pen → ℤ → Pen
spaced p w =
    if p.started then record {
      at = record { 0 = p.at.0 +ℤ w };
      visible = p.visible;
      solid = p.solid;
      started = true;
      seen = p.seen;
    } else p

-- a preserved space is seen, and counts but for what fits
abbrev pub hung : Pen → ℤ → Pen
hung p w = record {
  at = record { 0 = p.at.0 +ℤ w };
  visible = p.visible;
  solid = record { 0 = p.at.0 +ℤ w };
  started = true;
  seen = true;
}

abbrev pub over : Frame → Pen → Part → Pen
over fr p (Space w) = spaced p w.width.0
over fr p (PreservedSpace w) = hung p w.width.0
over fr p (Tab t) = went (next_stop fr.tab.0 p.at.0)
over fr p Linefeed = record { at = p.at; visible = p.visible; solid = p.solid; started = p.started; seen = true }
over fr p (Text w) = went (p.at.0 +ℤ w.width.0)
over fr p (Start b) = moved p b.width.0 b.seen
over fr p (End b) = moved p b.width.0 b.seen
over fr p (Atomic a) = went (p.at.0 +ℤ a.width.0)

abbrev pub over_all : Frame → Pen → List Part → Pen
over_all fr p [] = p
over_all fr p (x ∷ xs) = over_all fr (over fr p x) xs

abbrev pub past : Frame → Pen → Stretch → Pen
past fr p s = over_all fr p s.parts

abbrev pub past_at : Frame → Pen → Option Stretch → Pen
past_at fr p None = p
past_at fr p (Some s) = past fr p s

-- where content begins in a room whose left edge is at a
abbrev pub start_of : Frame → ℤ → ℤ
start_of fr a = (a -ℤ fr.left.0) +ℤ fr.indent.0

-- after the first k of these, in a room whose left edge is at a
abbrev pub pen_to : Frame → ℤ → List Stretch → ℕ → Pen
pen_to fr a ss zero = blank (start_of fr a)
pen_to fr a ss (suc k) = past_at fr (pen_to fr a ss k) (slice_get ss k)

-- whether something of the first k is seen (9.4.2), which doesn't depend on the room
abbrev pub seen_to : Frame → List Stretch → ℕ → Bool
seen_to fr ss k = (pen_to fr (pos 0) ss k).seen

-- All places on the way are below 2^62 in absolute value.
pub record PenFits (p : Pen) : Type 0 where
  pub at : IsPosition p.at.0
  pub visible : IsPosition p.visible.0
  pub solid : IsPosition p.solid.0

abbrev pub PensFit : Frame → Pen → List Part → Type 0
PensFit fr p [] = PenFits p
PensFit fr p (x ∷ xs) = PenFits p × PensFit fr (over fr p x) xs

pub record ContentFits (fr : Frame) (a : ℤ) (ss : List Stretch) : Type 0 where
  pub blank_fits : PenFits (blank (start_of fr a))
  pub stretches : (k : ℕ) (s : Stretch) → slice_get ss k ≡ Some s → PensFit fr (pen_to fr a ss k) s.parts
