use Rattle.std.proofs.Common.{◌≡◌, ◌++◌, drop}
use Rattle.std.specs.List.{flat_map}
use Rattle.lay_drawing.specs.Changes.{left_of}
use Rattle.lay_drawing.proofs.changes.push_left.Given as goal

abbrev pub invariant-loop-piece : goal.invariant-loop-piece
invariant-loop-piece l = l.pieces.items ++ flat_map (left_of l.after) (drop l.piece-index l.before) ≡ l.fn.pieces.items ++ flat_map (left_of l.after) l.before
