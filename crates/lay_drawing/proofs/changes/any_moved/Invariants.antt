use Rattle.std.proofs.Common.{◌≡◌, drop}
use Rattle.std.specs.List.{list_any}
use Rattle.lay_drawing.specs.Changes.{is_moved}
use Rattle.lay_drawing.proofs.changes.any_moved.Given as goal

abbrev pub invariant-loop-other : goal.invariant-loop-other
invariant-loop-other l = list_any (is_moved l.fn.piece) (drop l.other-index l.others) ≡ list_any (is_moved l.fn.piece) l.others
