use Rattle.std.proofs.Common.{◌≡◌, drop}
use Rattle.std.specs.List.{list_any}
use Rattle.lay_drawing.specs.Changes.{is_named}
use Rattle.lay_drawing.proofs.changes.any_named.Given as goal

abbrev pub invariant-loop-other : goal.invariant-loop-other
invariant-loop-other l = list_any (is_named l.fn.piece) (drop l.other-index l.others) ≡ list_any (is_named l.fn.piece) l.others
