use Rattle.std.proofs.Common.{◌≡◌, ◌++◌, drop}
use Rattle.lay_measure.specs.LineParts.{parts_of}
use Rattle.lay_measure.proofs.line_parts.put_items.Given as goal

abbrev pub invariant-loop-k : goal.invariant-loop-k
invariant-loop-k l = l.parts.items ++ parts_of l.of (drop l.k l.items) ≡ l.fn.parts.items ++ parts_of l.of l.items
