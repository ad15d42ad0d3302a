-- Which boxes hold inline-level boxes and no block-level ones, while that is found.
use Rattle.std.specs.Prelude.{ℕ, ◌≡◌, ◌<◌, ◌&&◌, not, Bool, List, length}
use Rattle.lay_box_tree.specs.declared.box_tree.BoxNode.{BoxNode}
use Rattle.lay_flow.specs.Blocks.Children.{flag_at}
use Rattle.lay_flow_boxes.specs.declared.inline_containers.Level.TheVariants.{Block as block, Inline as inline}
use Rattle.lay_flow_boxes.specs.InlineContainers.{holds}

-- these hold inline-level boxes, and none of the first n boxes is a block-level one in them
pub record AreAlone (boxes : List BoxNode) (flags : List Bool) (n : ℕ) : Type 0 where
  pub count : length flags ≡ length boxes
  pub each : (c : ℕ) → c < length boxes → flag_at flags c ≡ (holds inline boxes c (length boxes) && not (holds block boxes c n))
