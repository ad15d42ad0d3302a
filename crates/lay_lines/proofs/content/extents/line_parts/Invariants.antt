use Rattle.std.proofs.Common.{◌≡◌}
use Rattle.lay_lines.specs.Content.Extents.{reading_of, reading_to}
use Rattle.lay_lines.proofs.content.extents.line_parts.Given as goal

abbrev pub invariant-loop-k : goal.invariant-loop-k
invariant-loop-k l = reading_of l.boxes.items l.line ≡ reading_to l.frame l.fn.boxes.items l.stretches l.k
