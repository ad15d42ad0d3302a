use Rattle.std.proofs.Common.{◌≡◌, drop}
use Rattle.lay_line_measures.specs.SeenLines.{has_seen_line}
use Rattle.lay_line_measures.proofs.seen_lines.has_seen_line.Given as goal

abbrev pub invariant-loop-k : goal.invariant-loop-k
invariant-loop-k l = has_seen_line (drop l.k l.stretches) ≡ has_seen_line l.stretches
