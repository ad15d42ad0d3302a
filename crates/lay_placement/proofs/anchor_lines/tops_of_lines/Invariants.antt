use Rattle.std.proofs.Common.{◌≡◌, ◌<◌, ◌≤◌, ℕ, true, None, length}
use Rattle.lay_box_tree.specs.Roles.{role_at}
use Rattle.lay_box_tree.specs.Containing.{container_of}
use Rattle.lay_flow_boxes.specs.ContextBlocks.{is_anchor}
use Rattle.lay_placement.specs.AnchorLines.{top_at}
use Rattle.lay_placement.specs.StaticPositions.{anchor_line}
use Rattle.lay_placement.proofs.anchor_lines.tops_of_lines.Given as goal

abbrev pub invariant-loop-c : goal.invariant-loop-c
invariant-loop-c l = record {
  count : length l.tops.items ≡ length l.input.boxes;
  found : (k : ℕ) → k < length l.input.boxes → is_anchor (role_at l.input.boxes k) ≡ true → container_of l.input.boxes k < l.c → top_at l.tops.items k ≡ anchor_line l.input l.places k;
  untouched : (k : ℕ) → k < length l.input.boxes → l.c ≤ container_of l.input.boxes k → top_at l.tops.items k ≡ None;
}
