use Rattle.std.proofs.Common.{◌<◌, ◌≤◌, ℕ}
use Rattle.lay_flow.specs.Blocks.BlockFloats.{shape_at}
use Rattle.lay_flow.specs.Pass.Clears.{IsSideToClear}
use Rattle.lay_flow.proofs.clearance.has_waiting_float.Given as goal

abbrev pub invariant-loop-j : goal.invariant-loop-j
invariant-loop-j l = (i : ℕ) → l.before.first ≤ i → i < l.j → IsSideToClear l.clear (shape_at l.before.at.boxes.list.now i).float → ⊥
