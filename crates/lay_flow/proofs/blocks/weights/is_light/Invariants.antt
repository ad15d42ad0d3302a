use Rattle.std.proofs.Common.{◌≡◌, ◌+◌}
use Rattle.lay_flow.specs.Blocks.Weights.{weight}
use Rattle.lay_flow.proofs.blocks.weights.is_light.Given as goal

abbrev pub invariant-loop-k : goal.invariant-loop-k
invariant-loop-k l = weight l.boxes l.k + l.left ≡ 16711680
