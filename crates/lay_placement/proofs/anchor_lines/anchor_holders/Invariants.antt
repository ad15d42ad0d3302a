use Rattle.std.proofs.Common.{◌≡◌, ◌<◌, ℕ, true, length}
use Rattle.lay_box_tree.specs.Roles.{role_at}
use Rattle.lay_flow.specs.Blocks.Children.{flag_at}
use Rattle.lay_box_tree.specs.Containing.{container_of}
use Rattle.lay_flow_boxes.specs.ContextBlocks.{is_anchor}
use Rattle.lay_placement.proofs.anchor_lines.anchor_holders.Given as goal

abbrev pub invariant-loop-k : goal.invariant-loop-k
invariant-loop-k l = record {
  count : length l.holders.items ≡ length l.boxes;
  each : (k : ℕ) → k < l.k → is_anchor (role_at l.boxes k) ≡ true → flag_at l.holders.items (container_of l.boxes k) ≡ true;
}
