use Rattle.std.proofs.Common.{◌≡◌, ◌++◌, drop}
use Rattle.lay_measure.specs.LineParts.{line_parts}
use Rattle.lay_measure.proofs.line_parts.line_parts.Given as goal

abbrev pub invariant-loop-k : goal.invariant-loop-k
invariant-loop-k l = l.parts.items ++ line_parts l.of (drop l.k l.segments) ≡ line_parts l.of l.segments
