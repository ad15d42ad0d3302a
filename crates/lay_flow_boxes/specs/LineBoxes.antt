-- What flow boxes are made of, while they are made.
use Rattle.std.specs.Prelude.{ℕ, ◌≡◌, ◌<◌, ◌≤◌, Bool, List, length}
use Rattle.lay_units.specs.declared.length.Unit.{Unit as Length}
use Rattle.lay_box_tree.specs.declared.box_tree.BoxNode.{BoxNode}
use Rattle.lay_box_tree.specs.declared.inline_part.InlinePart.{InlinePart}
use Rattle.lay_box_tree.specs.InlineParts.{AreInlineParts}
use Rattle.lay_flow.specs.Blocks.Children.{flag_at}
use Rattle.lay_flow_boxes.specs.FlowShapes.{most_flow_boxes}
use Rattle.lay_flow_boxes.specs.InlineContainers.{is_inline_container}
use Rattle.lay_flow_boxes.specs.NearLefts.{AreNearLefts}

-- the columns are as long as the boxes, and say what they ought to
pub record IsShaping (boxes : List BoxNode) (parts : List InlinePart) (lefts : List Length) (inline_containers : List Bool) : Type 0 where
  pub few : length boxes ≤ most_flow_boxes
  pub are_parts : AreInlineParts boxes parts
  pub lefts_count : length lefts ≡ length boxes
  pub near : AreNearLefts lefts
  pub flags_count : length inline_containers ≡ length boxes
  pub flags : (k : ℕ) → k < length boxes → flag_at inline_containers k ≡ is_inline_container boxes k
