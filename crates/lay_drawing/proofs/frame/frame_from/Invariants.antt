use Rattle.std.proofs.Common.{◌≡◌, fold, drop}
use Rattle.lay_drawing.specs.Frames.{edges, joined}
use Rattle.lay_drawing.proofs.frame.frame_from.Given as goal

abbrev pub invariant-loop-piece : goal.invariant-loop-piece
invariant-loop-piece l = fold (λ frame other. joined frame (edges other.piece)) l.frame (drop l.piece-index l.pieces) ≡ fold (λ frame other. joined frame (edges other.piece)) l.fn.first l.pieces
