use Rattle.std.proofs.Common.{◌≡◌, drop}
use Rattle.std.specs.List.{list_any}
use Rattle.lay_drawing.specs.Changes.{is_same}
use Rattle.lay_drawing.proofs.changes.any_same.Given as goal

abbrev pub invariant-loop-other : goal.invariant-loop-other
invariant-loop-other l = list_any (is_same l.fn.piece) (drop l.other-index l.others) ≡ list_any (is_same l.fn.piece) l.others
