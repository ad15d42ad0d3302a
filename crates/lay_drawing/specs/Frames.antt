-- The edges of pieces, and the frame that holds them all.
use Rattle.std.specs.Prelude.{ℤ, pos, ◌+ℤ◌, ◌≤ℤ◌, List, [], ◌∷◌, fold}
use Rattle.std.specs.List.{All}
use Rattle.std.specs.Int.{int_min, int_max}
use Rattle.lay_frag.specs.declared.frag.Frag.{Frag}
use Rattle.lay_drawing.specs.declared.frame.Frame.{Frame}
use Rattle.lay_drawing.specs.declared.frame.Span.{Span}
use Rattle.lay_drawing.specs.declared.mark.Marked.{Marked}

-- the edges of a size; one that is negative reaches to the left or upward
unfoldable pub reach : ℤ → ℤ → Span
reach from size = record { low = int_min from (from +ℤ size); high = int_max from (from +ℤ size) }

abbrev pub edges : Frag → Frame
edges f = record { across = reach f.rect.x.0 f.rect.w.0; down = reach f.rect.y.0 f.rect.h.0 }

-- the least that holds two
abbrev pub wider_span : Span → Span → Span
wider_span a b = record { low = int_min a.low b.low; high = int_max a.high b.high }

abbrev pub joined : Frame → Frame → Frame
joined a b = record { across = wider_span a.across b.across; down = wider_span a.down b.down }

-- the least frame that holds all pieces; where there are none, one of no size
abbrev pub frame_around : List Marked → Frame
frame_around [] = record { across = record { low = pos 0; high = pos 0 }; down = record { low = pos 0; high = pos 0 } }
frame_around (m ∷ ms) = fold (λ frame other. joined frame (edges other.piece)) (edges m.piece) ms

abbrev pub IsWithin : Span → Span → Type 0
IsWithin inner outer = (outer.low ≤ℤ inner.low) × (inner.high ≤ℤ outer.high)

-- a frame holds a piece
abbrev pub Holds : Frame → Marked → Type 0
Holds frame m = IsWithin (edges m.piece).across frame.across × IsWithin (edges m.piece).down frame.down

abbrev pub FramesHold : Type 0
FramesHold = (pieces : List Marked) → All (Holds (frame_around pieces)) pieces
