-- Where a formatting context stands by itself: the root's its margins away from the top and the left edge of the viewport, or from the
-- right edge where it floats there, and moved by its own offset where it is relatively positioned (CSS 2.2, 9.4.3); and an absolutely
-- positioned one by its equations (10.3.7 and 10.6.4). Another one is told by the one around it.
use Rattle.std.specs.Prelude.{◌≡◌, ◌+ℤ◌, ◌-ℤ◌, Bool, true, false, List, if◌then◌else◌}
use Rattle.lay_units.specs.declared.length.Unit.{Unit as Length}
use Rattle.lay_style.specs.declared.style.Style.{Style}
use Rattle.lay_style.specs.declared.style_words.Float.{Float}
use Rattle.lay_style.specs.declared.style_words.Float.TheVariants as float
use Rattle.lay_style.specs.ComputedStyle.{style_at}
use Rattle.lay_box_tree.specs.declared.box_tree.BoxNode.{BoxNode}
use Rattle.lay_box_tree.specs.declared.box_tree.Flow.{Flow}
use Rattle.lay_box_tree.specs.declared.box_tree.Flow.TheVariants.{Floating}
use Rattle.lay_boxgen.specs.Display.{flow_of}
use Rattle.lay_box_tree.specs.BoxColumns.{box_styles}
use Rattle.lay_sizes.specs.declared.own_boxes.OwnBox.{OwnBox}
use Rattle.lay_sizes.specs.declared.sizing.BoxSizes.{BoxSizes}
use Rattle.lay_sizes.specs.declared.sizing.ContainingBlock.{ContainingBlock}
use Rattle.lay_sizes.specs.BoxSizes.{border_width}
use Rattle.lay_sizes.specs.SizeColumns.{sizes_at}
use Rattle.lay_abspos.specs.Relative.RelativeOffsets.{relative_offset}
use Rattle.lay_box_tree.specs.BoxColumns.{box_at}
use Rattle.lay_placements.specs.declared.corner.Corner.{Corner}
use Rattle.lay_placements.specs.Corners.{no_corner}
use Rattle.lay_abspos.specs.Offsets.{IsOffset}
use Rattle.lay_abspos.specs.declared.own_place.OwnPlace.{OwnPlace}
use Rattle.lay_abspos.specs.declared.own_place.OwnPlace.TheVariants.{Inner, Root, Absolute}

abbrev pub is_right : Flow → Float → Bool
is_right Floating float.Right = true
is_right _ _ = false

abbrev pub root_left : ContainingBlock → Style → BoxSizes → Length
root_left viewport s z =
    if is_right (flow_of s) s.float then record { 0 = viewport.width.0 -ℤ z.widths.margin_right.0 -ℤ border_width z }
    else z.widths.margin_left

abbrev pub root_corner : ContainingBlock → Style → BoxSizes → Corner
root_corner viewport s z = record {
  x = record { 0 = (root_left viewport s z).0 +ℤ (relative_offset viewport s).right.0 };
  y = record { 0 = z.margin_top.0 +ℤ (relative_offset viewport s).down.0 };
}

-- what is given of that beside the placement: the boxes with their sizes, and how far the left border edge of an absolutely
-- positioned one is from that of its containing block
pub record StandInput : Type 0 where
  pub boxes : List BoxNode
  pub sizes : List BoxSizes
  pub left : Length
  pub position : OwnPlace

-- the formatting context whose own box is this stands there
abbrev pub IsOwnOffsetBy : OwnPlace → StandInput → OwnBox → Corner → Type 0
IsOwnOffsetBy Inner i own corner = corner ≡ no_corner
IsOwnOffsetBy (Root viewport) i own corner = corner ≡ root_corner viewport (style_at (box_styles i.boxes) 0) (sizes_at i.sizes 0)
IsOwnOffsetBy (Absolute s) i own corner = IsOffset s (box_at i.boxes 0) i.left own.height corner

abbrev pub IsOwnOffset : StandInput → OwnBox → Corner → Type 0
IsOwnOffset i own corner = IsOwnOffsetBy i.position i own corner
