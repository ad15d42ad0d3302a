use Rattle.std.proofs.Common.{◌≡◌, drop}
use Rattle.lay_lines.specs.Content.Extents.{strut_alone, opened_all}
use Rattle.lay_lines.proofs.content.line_parts.LineParts.first.Given as goal

abbrev pub invariant-loop-k : goal.invariant-loop-k
invariant-loop-k l = opened_all l.line (drop l.k l.boxes) ≡ opened_all (strut_alone l.fn.strut) l.boxes
