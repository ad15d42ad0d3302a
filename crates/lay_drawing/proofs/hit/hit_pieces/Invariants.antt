use Rattle.std.proofs.Common.{◌≡◌, ◌++◌, drop, map}
use Rattle.lay_drawing.specs.Hits.{hit_mark}
use Rattle.lay_drawing.specs.Marks.{marked}
use Rattle.lay_drawing.proofs.hit.hit_pieces.Given as goal

abbrev pub invariant-loop-piece : goal.invariant-loop-piece
invariant-loop-piece l = l.marked.items ++ map (λ f. marked (hit_mark l.name f) f) (drop l.piece-index l.pieces) ≡ map (λ f. marked (hit_mark l.name f) f) l.pieces
