-- The used sizes of an absolutely positioned box that is no table (CSS 2.2, 10.3.7 and 10.3.8), as far as they don't depend on what
-- is in it, and how far its left border edge is from the left edge of its containing block. A percentage height is of the containing
-- block's; a height between `top` and `bottom` isn't definite for what is in the box, but it is the height that the box has.
use Rattle.std.specs.Prelude.{◌≡◌, ◌+ℤ◌, ◌&&◌, Bool, true, false, not, Option, None, Some}
use Rattle.lay_units.specs.declared.length.Unit.{Unit as Length}
use Rattle.lay_units.specs.declared.records.AbsOut.{AbsOut}
use Rattle.lay_units.specs.declared.records.Len.{Len}
use Rattle.lay_units.specs.declared.records.Len.TheVariants.{Auto as auto, Of as of}
use Rattle.lay_units.specs.Lengths.{no_length}
use Rattle.lay_box_tree.specs.declared.box_tree.BoxNode.{BoxNode}
use Rattle.lay_box_tree.specs.Kinds.{is_wrapper}
use Rattle.lay_widths.specs.declared.widths.BlockOut.{BlockOut}
use Rattle.lay_sizes.specs.declared.sizing.BoxSizes.{BoxSizes}
use Rattle.lay_sizes.specs.BoxSizes.{height_of, max_height_of, min_height_of}
use Rattle.lay_sizes.specs.UsedLengths.{edges_of, used_margin, used_vertical_margin}
use Rattle.lay_abspos.specs.declared.axis.Axis.{Axis}
use Rattle.lay_abspos.specs.declared.axis.ContentSize.TheVariants.{Shrinks as shrinks, Stands as stands}
use Rattle.lay_abspos.specs.AbsoluteAxis.{IsUsedAxis}
use Rattle.lay_abspos.specs.declared.setting.AbsoluteSetting.{AbsoluteSetting}
use Rattle.lay_abspos.specs.AbsoluteAxes.{axis_across, axis_down, block_across, block_down, natural_in}
use Rattle.lay_abspos.specs.AbsoluteSettings.{block_in}

-- from the edge of a containing block to that of a border box
abbrev pub border_start : AbsOut → Length
border_start out = record { 0 = out.left.0 +ℤ out.margin_left.0 }

abbrev pub widths_in : AbsOut → BlockOut
widths_in out = record { margin_left = out.margin_left; width = out.width; margin_right = out.margin_right }

abbrev pub own_axis_across : AbsoluteSetting → BoxNode → Length → Length → Axis
own_axis_across s own preferred_minimum preferred =
    axis_across s own.style (block_across (block_in s) (natural_in own.kind) own.style) (shrinks preferred_minimum preferred)

-- these are the used sizes of this box, whose content has these preferred widths, and its left border edge is there
pub record IsAbsoluteSized (s : AbsoluteSetting) (own : BoxNode) (preferred_minimum preferred : Length) (z : BoxSizes) (left : Length)
    : Type 0 where
  pub out : AbsOut
  pub across : IsUsedAxis (own_axis_across s own preferred_minimum preferred) out
  pub left_is : left ≡ border_start out
  pub widths : z.widths ≡ widths_in out
  pub containing_is : z.containing ≡ s.rect.w
  pub edges : z.edges ≡ edges_of s.rect.w own.style
  pub margin_top : z.margin_top ≡ used_vertical_margin s.rect.w own.style.margin.top
  pub margin_bottom : z.margin_bottom ≡ used_vertical_margin s.rect.w own.style.margin.bottom
  pub height : z.height ≡ height_of (block_in s) (natural_in own.kind) own.style
  pub min_height : z.min_height ≡ min_height_of (block_in s) (natural_in own.kind) own.style
  pub max_height : z.max_height ≡ max_height_of (block_in s) (natural_in own.kind) own.style

-- the equation down, of a box whose content is so high
abbrev pub own_axis_down : AbsoluteSetting → BoxNode → Length → Axis
own_axis_down s own height =
    axis_down s own.style (block_down (block_in s) (natural_in own.kind) own.style s.rect.h) (stands height)

abbrev pub is_auto_len : Len → Bool
is_auto_len auto = true
is_auto_len (of v) = false

-- the height of this box is that between `top` and `bottom`, which no table takes (17.5.3)
abbrev pub is_stretched : AbsoluteSetting → BoxNode → Bool
is_stretched s own =
    not (is_wrapper own.kind) && is_auto_len (height_of (block_in s) (natural_in own.kind) own.style)
    && not (is_auto_len (used_margin s.rect.h own.style.offset.top)) && not (is_auto_len (used_margin s.rect.h own.style.offset.bottom))

-- the size that an axis gives
pub record IsAxisSize (a : Axis) (size : Length) : Type 0 where
  pub out : AbsOut
  pub axis : IsUsedAxis a out
  pub size_is : size ≡ out.width

abbrev pub IsStretchedAs : (is_stretched : Bool) → AbsoluteSetting → BoxNode → Option Length → Type 0
IsStretchedAs true s own (Some height) = IsAxisSize (own_axis_down s own no_length) height
IsStretchedAs true s own None = ⊥
IsStretchedAs false s own height = height ≡ None

-- this is the height of the content of the box, where it is that between `top` and `bottom`, for which the content is nothing
abbrev pub IsStretchedHeight : AbsoluteSetting → BoxNode → Option Length → Type 0
IsStretchedHeight s own height = IsStretchedAs (is_stretched s own) s own height
