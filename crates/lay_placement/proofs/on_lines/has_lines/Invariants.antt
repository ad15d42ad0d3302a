use Rattle.std.proofs.Common.{◌≡◌, ◌<◌, ℕ, false}
use Rattle.lay_flow.specs.Blocks.Boxes.{box_at}
use Rattle.lay_placement.specs.OnLines.{holds_lines}
use Rattle.lay_placement.proofs.on_lines.has_lines.Given as goal

abbrev pub invariant-loop-k : goal.invariant-loop-k
invariant-loop-k l = (j : ℕ) → j < l.k → holds_lines (box_at l.flow_boxes j).kind ≡ false
