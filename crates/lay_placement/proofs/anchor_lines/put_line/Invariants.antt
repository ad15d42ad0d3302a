use Rattle.std.proofs.Common.{ℕ, take}
use Rattle.lay_placement.specs.AnchorLines.{ArePut, top_in_line}
use Rattle.lay_placement.proofs.anchor_lines.put_line.Given as goal

abbrev pub invariant-loop-s : goal.invariant-loop-s
invariant-loop-s l = ArePut l.of.boxes.now l.of.container l.fn.tops l.tops (λ (k : ℕ). top_in_line (take l.s l.segments) l.top k)
