use Rattle.std.proofs.Common.{◌≡◌, ◌<◌, ℕ, false}
use Rattle.lay_box_tree.specs.Roles.{role_at}
use Rattle.lay_flow_boxes.specs.ContextBlocks.{is_anchor}
use Rattle.lay_placement.proofs.anchor_lines.has_anchor.Given as goal

abbrev pub invariant-loop-k : goal.invariant-loop-k
invariant-loop-k l = (j : ℕ) → j < l.k → is_anchor (role_at l.boxes j) ≡ false
