use Rattle.std.proofs.Common.{◌≡◌, ◌<◌, ℕ}
use Rattle.lay_shape.specs.Keys.{node_of}
use Rattle.lay_shape.proofs.kept_shapes.kept_boxes.are_of_same_nodes.Given as goal

abbrev pub invariant-loop-i : goal.invariant-loop-i
invariant-loop-i l = (j : ℕ) → j < l.i → node_of l.after j ≡ node_of l.before j
