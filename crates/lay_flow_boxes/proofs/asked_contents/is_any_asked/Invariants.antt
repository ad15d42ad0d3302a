use Rattle.std.proofs.Common.{ℕ, ◌≡◌, ◌<◌, false}
use Rattle.lay_flow_boxes.specs.AskedContents.{is_asked_at}
use Rattle.lay_flow_boxes.proofs.asked_contents.is_any_asked.Given as goal

abbrev pub invariant-loop-k : goal.invariant-loop-k
invariant-loop-k l = (j : ℕ) → j < l.k → is_asked_at l.asked l.boxes j ≡ false
