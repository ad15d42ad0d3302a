use Rattle.std.proofs.Common.{◌≡◌, ◌++◌, drop}
use Rattle.lay_line_items.specs.InlineSegments.{measured}
use Rattle.lay_line_items.proofs.measured.measured.Given as goal

abbrev pub invariant-loop-k : goal.invariant-loop-k
invariant-loop-k l = l.out.items ++ measured l.face l.boxes (drop l.k l.items) ≡ measured l.face l.boxes l.items
