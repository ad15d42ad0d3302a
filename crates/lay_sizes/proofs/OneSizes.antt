-- A box has one set of used sizes.
use Rattle.std.proofs.Common.{◌≡◌, ℤ, refl, sym, ◌∙◌, Option}
use Rattle.lay_units.specs.declared.length.Unit.{Unit as Length}
use Rattle.lay_units.specs.declared.records.Len.{Len}
use Rattle.lay_units.specs.declared.records.Sides.{Sides}
use Rattle.lay_style.specs.declared.style.Style.{Style}
use Rattle.lay_widths.specs.declared.widths.BlockOut.{BlockOut}
use Rattle.lay_widths.specs.declared.widths.UsedWidths.{UsedWidths}
use Rattle.lay_widths.specs.BlockWidths.{IsHeld}
use Rattle.lay_widths.proofs.Unique.{one_block_width_lem, one_float_width_lem}
use Rattle.lay_sizes.specs.declared.sizing.BoxSizes.{BoxSizes}
use Rattle.lay_sizes.specs.declared.sizing.WidthRule.{WidthRule}
use Rattle.lay_sizes.specs.declared.sizing.WidthRule.TheVariants.{Fills, Inline, ShrinksToFit, ReplacedBlock, Replaced}
use Rattle.lay_sizes.specs.declared.sizing.ContainingBlock.{ContainingBlock}
use Rattle.lay_sizes.specs.UsedLengths.{block_of}
use Rattle.lay_sizes.specs.ReplacedBoxes.{replaced_size_of}
use Rattle.lay_sizes.specs.BoxSizes.{IsUsedWidth, inline_used_widths, widths_beside, with_width}
use Rattle.lay_sizes.specs.Laws.{OneBoxSizes}

abbrev widths_of : ℤ → ℤ → ℤ → BlockOut
widths_of left width right = record { margin_left = record { 0 = left }; width = record { 0 = width }; margin_right = record { 0 = right } }

pub held_same : (used : UsedWidths) (x y : BlockOut) → IsHeld used x → IsHeld used y → x ≡ y
held_same used x y p q =
    let left = p.margin_left ∙ sym q.margin_left in
    let width = p.width ∙ sym q.width in
    let right = p.margin_right ∙ sym q.margin_right in
    let e : widths_of x.margin_left.0 x.width.0 x.margin_right.0 ≡ widths_of y.margin_left.0 y.width.0 y.margin_right.0 = rw (left, width, right) refl in
    e

one_used_width : (containing : ContainingBlock) (rule : WidthRule) (s : Style) (x y : BlockOut) → IsUsedWidth containing rule s x → IsUsedWidth containing rule s y → x ≡ y
one_used_width containing Fills s x y p q = one_block_width_lem (block_of containing.width s) x y p q
one_used_width containing Inline s x y p q = held_same (inline_used_widths (block_of containing.width s)) x y p q
one_used_width containing (ShrinksToFit preferred_minimum preferred) s x y p q =
    one_float_width_lem (block_of containing.width s) preferred_minimum preferred x y p q
one_used_width containing (ReplacedBlock natural) s x y p q =
    one_block_width_lem (with_width (block_of containing.width s) (replaced_size_of containing natural s).width) x y p q
one_used_width containing (Replaced natural) s x y p q =
    held_same (widths_beside (block_of containing.width s) (replaced_size_of containing natural s).width.0) x y p q

abbrev sizes_of : Length → BlockOut → Sides → (margin_top margin_bottom : Length) → Len → Length → Option Length → BoxSizes
sizes_of containing widths edges margin_top margin_bottom height min_height max_height = record {
  containing = containing;
  widths = widths;
  edges = edges;
  margin_top = margin_top;
  margin_bottom = margin_bottom;
  height = height;
  min_height = min_height;
  max_height = max_height;
}

pub one_box_sizes_lem : OneBoxSizes
one_box_sizes_lem containing rule s y z p q =
    let around = p.containing_is ∙ sym q.containing_is in
    let widths = one_used_width containing rule s y.widths z.widths p.widths q.widths in
    let edges = p.edges ∙ sym q.edges in
    let margin_top = p.margin_top ∙ sym q.margin_top in
    let margin_bottom = p.margin_bottom ∙ sym q.margin_bottom in
    let height = p.height ∙ sym q.height in
    let min_height = p.min_height ∙ sym q.min_height in
    let max_height = p.max_height ∙ sym q.max_height in
    let e : sizes_of y.containing y.widths y.edges y.margin_top y.margin_bottom y.height y.min_height y.max_height ≡ sizes_of z.containing z.widths z.edges z.margin_top z.margin_bottom z.height z.min_height z.max_height =
    rw (around, widths, edges, margin_top, margin_bottom, height, min_height, max_height) refl in
    e
