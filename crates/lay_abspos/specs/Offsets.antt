-- Where an absolutely positioned box stands, once it is laid out (CSS 2.2, 10.3.7 and 10.6.4): the corner of its border box, counted
-- as its containing block is. Its place across is known before; that down comes of the height of its border box.
use Rattle.std.specs.Prelude.{◌≡◌, ◌+ℤ◌, Bool, true, false}
use Rattle.lay_units.specs.declared.length.Unit.{Unit as Length}
use Rattle.lay_units.specs.declared.records.AbsOut.{AbsOut}
use Rattle.lay_units.specs.declared.records.Len.TheVariants.{Of as of}
use Rattle.lay_units.specs.Lengths.{no_length}
use Rattle.lay_box_tree.specs.declared.box_tree.BoxNode.{BoxNode}
use Rattle.lay_box_tree.specs.Kinds.{is_wrapper}
use Rattle.lay_abspos.specs.declared.axis.Axis.{Axis}
use Rattle.lay_abspos.specs.declared.axis.ContentSize.TheVariants.{Stands as stands}
use Rattle.lay_abspos.specs.AbsoluteAxis.{IsUsedAxis}
use Rattle.lay_placements.specs.declared.corner.Corner.{Corner}
use Rattle.lay_abspos.specs.declared.setting.AbsoluteSetting.{AbsoluteSetting}
use Rattle.lay_abspos.specs.AbsoluteAxes.{axis_down, content_box_height, wrapper_down}
use Rattle.lay_abspos.specs.AbsoluteSizes.{border_start, own_axis_down}
use Rattle.lay_abspos.specs.AbsoluteSettings.{block_in}

-- the equation down, of a box whose border box is so high; `top` and `bottom` never stretch a table
abbrev pub axis_of_height : (is_table : Bool) → AbsoluteSetting → BoxNode → Length → Axis
axis_of_height true s own height = axis_down s own.style (wrapper_down s own.style (of height)) (stands no_length)
axis_of_height false s own height = own_axis_down s own (content_box_height (block_in s) own.style height)

-- so far from the left and the top edge of a containing block
abbrev pub corner_inside : AbsoluteSetting → Length → Length → Corner
corner_inside s left top = record { x = record { 0 = s.rect.x.0 +ℤ left.0 }; y = record { 0 = s.rect.y.0 +ℤ top.0 } }

-- the box, whose left border edge is so far from that of its containing block, and whose border box is so high, stands there
pub record IsOffset (s : AbsoluteSetting) (own : BoxNode) (left height : Length) (corner : Corner) : Type 0 where
  pub out : AbsOut
  pub down : IsUsedAxis (axis_of_height (is_wrapper own.kind) s own height) out
  pub corner_is : corner ≡ corner_inside s left (border_start out)
