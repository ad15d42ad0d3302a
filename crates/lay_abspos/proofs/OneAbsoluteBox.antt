-- An absolutely positioned box has one set of sizes and stands in one place, as its equations have one solution.
use Rattle.std.proofs.Common.{◌≡◌, Bool, true, false, refl, subst, sym, ap, ◌∙◌, Result, Ok, Err, IfErr}
use Rattle.std.specs.Prelude.{Option, Some, None}
use Rattle.lay_units.specs.declared.length.Unit.{Unit as Length}
use Rattle.lay_units.specs.declared.records.AbsOut.{AbsOut}
use Rattle.lay_units.specs.declared.records.Len.{Len}
use Rattle.lay_units.specs.declared.records.Sides.{Sides}
use Rattle.lay_units.specs.declared.records.Len.TheVariants.{Of as of}
use Rattle.lay_units.specs.Lengths.{no_length}
use Rattle.lay_box_tree.specs.declared.box_tree.BoxNode.{BoxNode}
use Rattle.lay_box_tree.specs.Kinds.{is_wrapper}
use Rattle.lay_abspos.specs.declared.axis.Axis.{Axis}
use Rattle.lay_abspos.specs.declared.axis.ContentSize.TheVariants.{Shrinks as shrinks}
use Rattle.lay_abspos.proofs.Unique.{one_used_axis_lem}
use Rattle.lay_placements.specs.Corners.{IsCornerNear}
use Rattle.lay_placements.specs.declared.corner.Corner.{Corner}
use Rattle.lay_sizes.specs.declared.sizing.BoxSizes.{BoxSizes}
use Rattle.lay_widths.specs.declared.widths.BlockOut.{BlockOut}
use Rattle.lay_abspos.specs.declared.setting.AbsoluteSetting.{AbsoluteSetting}
use Rattle.lay_abspos.specs.AbsoluteAxes.{axis_across, wrapper_across}
use Rattle.lay_abspos.specs.AbsoluteSizes.{IsAxisSize, IsStretchedAs, border_start, is_stretched, own_axis_across, own_axis_down, widths_in}
use Rattle.lay_abspos.specs.SettingLaws.{OneAbsoluteSizes, OneOffset, OneStretchedHeight, OneTableLeft}
use Rattle.lay_abspos.specs.Offsets.{IsOffset, axis_of_height, corner_inside}

abbrev sizes_of : Length → BlockOut → Sides → (margin_top margin_bottom : Length) → Len → Length → Option Length → BoxSizes
sizes_of containing widths edges margin_top margin_bottom height min_height max_height = record {
  containing = containing;
  widths = widths;
  edges = edges;
  margin_top = margin_top;
  margin_bottom = margin_bottom;
  height = height;
  min_height = min_height;
  max_height = max_height;
}

same_sizes : (y z : BoxSizes) → y.containing ≡ z.containing → y.widths ≡ z.widths → y.edges ≡ z.edges → y.margin_top ≡ z.margin_top
    → y.margin_bottom ≡ z.margin_bottom → y.height ≡ z.height → y.min_height ≡ z.min_height → y.max_height ≡ z.max_height → y ≡ z
same_sizes y z a b c d e f g h =
    let same : sizes_of y.containing y.widths y.edges y.margin_top y.margin_bottom y.height y.min_height y.max_height ≡ sizes_of z.containing z.widths z.edges z.margin_top z.margin_bottom z.height z.min_height z.max_height =
    rw (a, b, c, d, e, f, g, h) refl in
    same

pub one_absolute_sizes_lem : OneAbsoluteSizes
one_absolute_sizes_lem s own minimum preferred x y a b p q =
    let out = one_used_axis_lem (own_axis_across s own minimum preferred) p.out q.out p.across q.across in (
      same_sizes x y (p.containing_is ∙ sym q.containing_is) (p.widths ∙ ap widths_in out ∙ sym q.widths) (p.edges ∙ sym q.edges)
          (p.margin_top ∙ sym q.margin_top) (p.margin_bottom ∙ sym q.margin_bottom) (p.height ∙ sym q.height)
          (p.min_height ∙ sym q.min_height) (p.max_height ∙ sym q.max_height),
      p.left_is ∙ ap border_start out ∙ sym q.left_is,
    )

one_size : (a : Axis) (x y : Length) → IsAxisSize a x → IsAxisSize a y → x ≡ y
one_size a x y p q = p.size_is ∙ ap (λ (o : AbsOut). o.width) (one_used_axis_lem a p.out q.out p.axis q.axis) ∙ sym q.size_is

stretched_as : (b : Bool) (s : AbsoluteSetting) (own : BoxNode) (x y : Option Length) → IsStretchedAs b s own x → IsStretchedAs b s own y → x ≡ y
stretched_as true s own None y p q = absurd p
stretched_as true s own (Some x) None p q = absurd q
stretched_as true s own (Some x) (Some y) p q = ap (λ (h : Length). Some h) (one_size (own_axis_down s own no_length) x y p q)
stretched_as false s own x y p q = p ∙ sym q

pub one_stretched_height_lem : OneStretchedHeight
one_stretched_height_lem s own x y p q = stretched_as (is_stretched s own) s own x y p q

pub one_table_left_lem : OneTableLeft
one_table_left_lem s style width x y p q =
    p.left_is ∙ ap border_start (one_used_axis_lem (axis_across s style (wrapper_across s style (of width)) (shrinks no_length no_length)) p.out q.out p.across q.across) ∙ sym q.left_is

pub one_offset_lem : OneOffset
one_offset_lem s own left height x y p q =
    let out = one_used_axis_lem (axis_of_height (is_wrapper own.kind) s own height) p.out q.out p.down q.down in
    p.corner_is ∙ ap (λ (o : AbsOut). corner_inside s left (border_start o)) out ∙ sym q.corner_is

-- where one corner of it is far away, each is
pub far_offset : {A E : Type 0} (s : AbsoluteSetting) (own : BoxNode) (left height : Length) (here : Corner) (r : Result A E) → IsOffset s own left height here
    → IfErr r (λ e. IsCornerNear here → ⊥) → IfErr r (λ e. (corner : Corner) → IsOffset s own left height corner → IsCornerNear corner → ⊥)
far_offset s own left height here (Ok a) is far = tt
far_offset s own left height here (Err e) is far = λ corner other near. far (subst IsCornerNear (one_offset_lem s own left height corner here other is) near)
