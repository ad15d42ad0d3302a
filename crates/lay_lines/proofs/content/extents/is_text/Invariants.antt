use Rattle.std.proofs.Common.{◌≡◌, drop}
use Rattle.lay_lines.specs.Content.LineContents.{boxes_of_part, total}
use Rattle.lay_lines.proofs.content.extents.is_text.Given as goal

abbrev pub invariant-loop-k : goal.invariant-loop-k
invariant-loop-k l = total boxes_of_part (drop l.k l.parts) ≡ total boxes_of_part l.parts
