-- What the content of lines is measured by: the boxes of a context, which of them have the left and the right edges of
-- their inline boxes, their used sizes, the boxes of inner contexts from outside, and the face.
use Rattle.std.specs.Prelude.{ℕ, List, slice_index_or}
use Rattle.lay_box_tree.specs.declared.box_tree.BoxNode.{BoxNode}
use Rattle.lay_box_tree.specs.declared.inline_part.InlinePart.{InlinePart}
use Rattle.lay_box_tree.specs.InlineParts.{no_part}
use Rattle.lay_face.specs.FaceValue.{FaceValue}
use Rattle.lay_sizes.specs.declared.sizing.BoxSizes.{BoxSizes}
use Rattle.lay_sizes.specs.declared.own_boxes.OwnBox.{OwnBox}
use Rattle.lay_sizes.specs.SizeColumns.{HaveSizeBounds}
use Rattle.lay_sizes.specs.OwnBoxes.{OwnBoxesFit}

pub record BoxMeasuresValue : Type 0 where
  pub boxes : List BoxNode
  pub parts : List InlinePart
  pub sizes : List BoxSizes
  pub inner : List OwnBox
  pub face : FaceValue

-- sizes are within their bounds
pub record MeasuresFit (m : BoxMeasuresValue) : Type 0 where
  pub sizes : HaveSizeBounds m.sizes
  pub inner : OwnBoxesFit m.inner

abbrev pub part_at : BoxMeasuresValue → ℕ → InlinePart
part_at m k = slice_index_or m.parts k no_part
