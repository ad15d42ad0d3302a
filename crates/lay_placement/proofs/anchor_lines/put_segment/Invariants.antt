use Rattle.std.proofs.Common.{ℕ, take}
use Rattle.lay_placement.specs.AnchorLines.{ArePut, top_in_segment}
use Rattle.lay_placement.proofs.anchor_lines.put_segment.Given as goal

abbrev pub invariant-loop-k : goal.invariant-loop-k
invariant-loop-k l = ArePut l.of.boxes.now l.of.container l.fn.tops l.tops (λ (k : ℕ). top_in_segment (take l.k l.items) l.top k)
