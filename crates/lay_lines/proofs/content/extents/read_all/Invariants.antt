use Rattle.std.proofs.Common.{◌≡◌, drop}
use Rattle.lay_lines.specs.Content.Extents.{reading_of, read_all}
use Rattle.lay_lines.proofs.content.extents.read_all.Given as goal

abbrev pub invariant-loop-k : goal.invariant-loop-k
invariant-loop-k l = read_all (reading_of l.boxes.items l.line) (drop l.k l.parts) ≡ read_all (reading_of l.fn.boxes.items l.fn.line) l.parts
