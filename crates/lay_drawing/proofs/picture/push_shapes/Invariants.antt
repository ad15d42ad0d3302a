use Rattle.std.proofs.Common.{◌≡◌, ◌++◌, drop, string_bytes}
use Rattle.lay_drawing.specs.Picture.{shapes}
use Rattle.lay_drawing.proofs.picture.push_shapes.Given as goal

abbrev pub invariant-loop-piece : goal.invariant-loop-piece
invariant-loop-piece l = string_bytes l.text ++ shapes (drop l.piece-index l.pieces) ≡ string_bytes l.fn.text ++ shapes l.pieces
