-- An absolutely positioned box has sizes and an offset, since it has used offsets along each axis. So each formatting context stands
-- in a place.
use Rattle.std.proofs.Common.{Bool, true, false, Option, None, Some, refl}
use Rattle.lay_units.specs.declared.length.Unit.{Unit as Length}
use Rattle.lay_units.specs.declared.records.Len.TheVariants.{Of as of}
use Rattle.lay_units.specs.Lengths.{no_length}
use Rattle.lay_style.specs.ComputedStyle.{style_at}
use Rattle.lay_box_tree.specs.declared.box_tree.BoxNode.{BoxNode}
use Rattle.lay_box_tree.specs.BoxColumns.{box_at, box_styles}
use Rattle.lay_box_tree.specs.Kinds.{is_wrapper}
use Rattle.lay_sizes.specs.declared.own_boxes.OwnBox.{OwnBox}
use Rattle.lay_sizes.specs.BoxSizes.{height_of, max_height_of, min_height_of}
use Rattle.lay_sizes.specs.SizeColumns.{sizes_at}
use Rattle.lay_sizes.specs.UsedLengths.{edges_of, used_vertical_margin}
use Rattle.lay_placements.specs.declared.corner.Corner.{Corner}
use Rattle.lay_placements.specs.Corners.{no_corner}
use Rattle.lay_abspos.specs.declared.axis.ContentSize.TheVariants.{Shrinks as shrinks}
use Rattle.lay_abspos.specs.declared.setting.AbsoluteSetting.{AbsoluteSetting}
use Rattle.lay_abspos.specs.declared.own_place.OwnPlace.{OwnPlace}
use Rattle.lay_abspos.specs.declared.own_place.OwnPlace.TheVariants.{Inner, Root, Absolute}
use Rattle.lay_abspos.specs.AbsoluteAxes.{axis_across, natural_in, wrapper_across}
use Rattle.lay_abspos.specs.AbsoluteSettings.{block_in}
use Rattle.lay_abspos.specs.AbsoluteSizes.{IsStretchedAs, border_start, is_stretched, own_axis_across, own_axis_down, widths_in}
use Rattle.lay_abspos.specs.Offsets.{axis_of_height, corner_inside}
use Rattle.lay_abspos.specs.OwnOffsets.{IsOwnOffsetBy, StandInput, root_corner}
use Rattle.lay_abspos.specs.PlaceLaws.{SomeOwnPlace}
use Rattle.lay_abspos.specs.SettingLaws.{SomeAbsoluteSizes, SomeOffset, SomeStretchedHeight, SomeTableLeft}
use Rattle.lay_abspos.proofs.SomeAxis.{some_used_axis_lem}

pub some_absolute_sizes_lem : SomeAbsoluteSizes
some_absolute_sizes_lem s own minimum preferred =
    let out = some_used_axis_lem (own_axis_across s own minimum preferred) in (
      record {
        containing = s.rect.w;
        widths = widths_in out.0;
        edges = edges_of s.rect.w own.style;
        margin_top = used_vertical_margin s.rect.w own.style.margin.top;
        margin_bottom = used_vertical_margin s.rect.w own.style.margin.bottom;
        height = height_of (block_in s) (natural_in own.kind) own.style;
        min_height = min_height_of (block_in s) (natural_in own.kind) own.style;
        max_height = max_height_of (block_in s) (natural_in own.kind) own.style;
      },
      border_start out.0,
      record {
        out = out.0;
        across = out.1;
        left_is = refl;
        widths = refl;
        containing_is = refl;
        edges = refl;
        margin_top = refl;
        margin_bottom = refl;
        height = refl;
        min_height = refl;
        max_height = refl;
      },
    )

some_stretched_as : (stretched : Bool) (s : AbsoluteSetting) (own : BoxNode) → (height : Option Length) × IsStretchedAs stretched s own height
some_stretched_as true s own =
    (let out = some_used_axis_lem (own_axis_down s own no_length) in (Some out.0.width, record { out = out.0; axis = out.1; size_is = refl }))
some_stretched_as false s own = (None, refl)

pub some_stretched_height_lem : SomeStretchedHeight
some_stretched_height_lem s own = some_stretched_as (is_stretched s own) s own

pub some_table_left_lem : SomeTableLeft
some_table_left_lem s style width =
    let out = some_used_axis_lem (axis_across s style (wrapper_across s style (of width)) (shrinks no_length no_length)) in
    (border_start out.0, record { out = out.0; across = out.1; left_is = refl })

pub some_offset_lem : SomeOffset
some_offset_lem s own left height =
    let out = some_used_axis_lem (axis_of_height (is_wrapper own.kind) s own height) in
    (corner_inside s left (border_start out.0), record { out = out.0; down = out.1; corner_is = refl })

some_place_by : (o : OwnPlace) (at : StandInput) (own : OwnBox) → (corner : Corner) × IsOwnOffsetBy o at own corner
some_place_by Inner at own = (no_corner, refl)
some_place_by (Root viewport) at own = (root_corner viewport (style_at (box_styles at.boxes) 0) (sizes_at at.sizes 0), refl)
some_place_by (Absolute s) at own = some_offset_lem s (box_at at.boxes 0) at.left own.height

pub some_own_place_lem : SomeOwnPlace
some_own_place_lem at own = some_place_by at.position at own
