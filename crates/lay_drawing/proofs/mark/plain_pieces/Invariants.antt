use Rattle.std.proofs.Common.{◌≡◌, ◌++◌, drop}
use Rattle.lay_drawing.specs.Marks.{plain_pieces}
use Rattle.lay_drawing.proofs.mark.plain_pieces.Given as goal

abbrev pub invariant-loop-piece : goal.invariant-loop-piece
invariant-loop-piece l = l.plain.items ++ plain_pieces (drop l.piece-index l.pieces) ≡ plain_pieces l.pieces
