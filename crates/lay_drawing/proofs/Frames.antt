-- The frame of pieces holds each of them.
use Rattle.std.proofs.Common.{List, [], ◌∷◌, fold, arith}
use Rattle.std.specs.List.{All}
use Rattle.std.proofs.lemmas.Int.{ints, clamps}
use Rattle.std.proofs.lemmas.List.Elements.{All-nil, All-cons}
use Rattle.lay_drawing.specs.declared.mark.Marked.{Marked}
use Rattle.lay_drawing.specs.declared.frame.Frame.{Frame}
use Rattle.lay_drawing.specs.declared.frame.Span.{Span}
use Rattle.lay_drawing.specs.Frames.{edges, wider_span, joined, frame_around, IsWithin, Holds, FramesHold}

Inside : Frame → Frame → Type 0
Inside a b = IsWithin a.across b.across × IsWithin a.down b.down

same_span : (a : Span) → IsWithin a a
same_span a = (omega (arith, ints), omega (arith, ints))

trans_span : (a b c : Span) → IsWithin a b → IsWithin b c → IsWithin a c
trans_span a b c first next = (omega (arith, ints, first.0, next.0), omega (arith, ints, first.1, next.1))

left_span : (a b : Span) → IsWithin a (wider_span a b)
left_span a b = (omega (arith, ints, clamps), omega (arith, ints, clamps))

right_span : (a b : Span) → IsWithin b (wider_span a b)
right_span a b = (omega (arith, ints, clamps), omega (arith, ints, clamps))

grows : (frame : Frame) (fs : List Marked) → Inside frame (fold (λ f p. joined f (edges p.piece)) frame fs)
unfolding Inside
grows frame [] = (same_span frame.across, same_span frame.down)
grows frame (x ∷ xs) =
    let later = grows (joined frame (edges x.piece)) xs in
    let end : Frame = fold (λ f p. joined f (edges p.piece)) (joined frame (edges x.piece)) xs in (
      trans_span frame.across (joined frame (edges x.piece)).across end.across (left_span frame.across (edges x.piece).across) later.0,
      trans_span frame.down (joined frame (edges x.piece)).down end.down (left_span frame.down (edges x.piece).down) later.1,
    )

each : (frame : Frame) (fs : List Marked) → All (Holds (fold (λ f p. joined f (edges p.piece)) frame fs)) fs
unfolding Inside
each frame [] = All-nil (Holds frame)
each frame (x ∷ xs) =
    let later = grows (joined frame (edges x.piece)) xs in
    let end : Frame = fold (λ f p. joined f (edges p.piece)) (joined frame (edges x.piece)) xs in
    All-cons (Holds end) x xs (
      trans_span (edges x.piece).across (joined frame (edges x.piece)).across end.across (right_span frame.across (edges x.piece).across) later.0,
      trans_span (edges x.piece).down (joined frame (edges x.piece)).down end.down (right_span frame.down (edges x.piece).down) later.1,
    )
    (each (joined frame (edges x.piece)) xs)

pub hold_lem : FramesHold
unfolding Inside
hold_lem [] = All-nil (Holds (frame_around []))
hold_lem (x ∷ xs) = All-cons (Holds (frame_around (x ∷ xs))) x xs (grows (edges x.piece) xs) (each (edges x.piece) xs)
