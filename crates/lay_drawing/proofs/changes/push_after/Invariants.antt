use Rattle.std.proofs.Common.{◌≡◌, ◌++◌, drop, map}
use Rattle.lay_drawing.specs.Marks.{marked}
use Rattle.lay_drawing.specs.Changes.{mark_after}
use Rattle.lay_drawing.proofs.changes.push_after.Given as goal

abbrev pub invariant-loop-piece : goal.invariant-loop-piece
invariant-loop-piece l =
    l.pieces.items ++ map (λ f. marked (mark_after l.before f) f) (drop l.piece-index l.after) ≡ l.fn.pieces.items ++ map (λ f. marked (mark_after l.before f) f) l.after
