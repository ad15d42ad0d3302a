-- What the placement of one formatting context is given: its boxes with their used sizes, the own boxes of the formatting
-- contexts inside it and the pieces of the anonymous ones among those, what is given of the height of its own box, and the
-- face of texts. The height of its own box is that of its used sizes, but for a table cell, whose row gives it its height
-- (CSS 2.2, 17.5.3).
use Rattle.std.specs.Prelude.{◌≡◌, ◌≤◌, List, length}
use Rattle.lay_units.specs.Units.{IsUsedSize}
use Rattle.lay_frag.specs.declared.frag.Frag.{Frag}
use Rattle.lay_box_tree.specs.declared.box_tree.BoxNode.{BoxNode}
use Rattle.lay_face.specs.FaceValue.{FaceValue}
use Rattle.lay_flow.specs.declared.blocks.flow_box.HeightRule.{HeightRule}
use Rattle.lay_sizes.specs.declared.sizing.BoxSizes.{BoxSizes}
use Rattle.lay_sizes.specs.declared.own_boxes.OwnBox.{OwnBox}
use Rattle.lay_sizes.specs.SizeBounds.{IsUsedSizeOrAuto}
use Rattle.lay_sizes.specs.SizeColumns.{HaveSizeBounds}
use Rattle.lay_sizes.specs.OwnBoxes.{OwnBoxesFit}
use Rattle.lay_box_tree.specs.ContextBoxes.{AreContextBoxes}
use Rattle.lay_placements.specs.InnerPieces.{AreNearInnerPieces}

pub record PlaceInput : Type 0 where
  pub boxes : List BoxNode
  pub sizes : List BoxSizes
  pub inner : List OwnBox
  pub pieces : List (List Frag)
  pub own_height : HeightRule
  pub face : FaceValue

-- what is given of a height is a used size
pub record HeightRuleFits (r : HeightRule) : Type 0 where
  pub given : IsUsedSizeOrAuto r.given
  pub min : IsUsedSize r.min.0

pub record PlaceInputFits (i : PlaceInput) : Type 0 where
  pub boxes : AreContextBoxes i.boxes
  pub size_count : length i.sizes ≡ length i.boxes
  pub inner_count : length i.inner ≡ length i.boxes
  pub piece_count : length i.pieces ≤ length i.boxes
  pub size_bounds : HaveSizeBounds i.sizes
  pub inner_bounds : OwnBoxesFit i.inner
  pub piece_bounds : AreNearInnerPieces i.pieces
  pub own_height : HeightRuleFits i.own_height

-- what is given of the height of a box of these used sizes (10.5 and 10.7)
abbrev pub height_rule_of : BoxSizes → HeightRule
height_rule_of z = record { given = z.height; min = z.min_height; max = z.max_height }
