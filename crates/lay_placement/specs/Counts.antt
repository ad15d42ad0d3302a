-- How many boxes a formatting context has at most, and how long its columns are.
use Rattle.std.specs.Prelude.{◌≤◌, ◌≡◌, List, length}
use Rattle.lay_box_tree.specs.declared.box_tree.BoxNode.{BoxNode}
use Rattle.lay_flow_boxes.specs.FlowShapes.{most_flow_boxes}
use Rattle.lay_placement.specs.ContextPlaces.{ContextPlaces}

-- each column has an entry for each box
pub record HaveCounts (boxes : List BoxNode) (p : ContextPlaces) : Type 0 where
  pub few : length boxes ≤ most_flow_boxes
  pub left_count : length p.shape.lefts ≡ length boxes
  pub box_count : length p.shape.flow_boxes ≡ length boxes
  pub place_count : length p.places.boxes ≡ length boxes
  pub move_count : length p.moves ≡ length boxes
