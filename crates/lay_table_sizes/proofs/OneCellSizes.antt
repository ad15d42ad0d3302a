-- The box of a cell has one set of used sizes.
use Rattle.std.proofs.Common.{◌≡◌, ℤ, refl, sym, ap, ◌∙◌, Option}
use Rattle.lay_units.specs.declared.length.Unit.{Unit as Length}
use Rattle.lay_units.specs.declared.records.Len.{Len}
use Rattle.lay_units.specs.declared.records.Sides.{Sides}
use Rattle.lay_widths.specs.declared.widths.BlockOut.{BlockOut}
use Rattle.lay_sizes.specs.declared.sizing.BoxSizes.{BoxSizes}
use Rattle.lay_table_sizes.specs.CellSizes.{content_width}
use Rattle.lay_table_sizes.specs.Laws.{OneCellSizes}

abbrev pub sizes_of : Length → BlockOut → Sides → (margin_top margin_bottom : Length) → Len → Length → Option Length → BoxSizes
sizes_of containing widths edges margin_top margin_bottom height min_height max_height = record {
  containing = containing;
  widths = widths;
  edges = edges;
  margin_top = margin_top;
  margin_bottom = margin_bottom;
  height = height;
  min_height = min_height;
  max_height = max_height;
}

-- boxes whose sizes are equal one by one
pub same_sizes : (y z : BoxSizes) → y.containing ≡ z.containing → y.widths ≡ z.widths → y.edges ≡ z.edges → y.margin_top ≡ z.margin_top → y.margin_bottom ≡ z.margin_bottom
    → y.height ≡ z.height → y.min_height ≡ z.min_height → y.max_height ≡ z.max_height → y ≡ z
same_sizes y z around widths edges margin_top margin_bottom height min_height max_height =
    let e : sizes_of y.containing y.widths y.edges y.margin_top y.margin_bottom y.height y.min_height y.max_height ≡ sizes_of z.containing z.widths z.edges z.margin_top z.margin_bottom z.height z.min_height z.max_height =
    rw (around, widths, edges, margin_top, margin_bottom, height, min_height, max_height) refl in
    e

abbrev widths_of : Length → Length → Length → BlockOut
widths_of left width right = record { margin_left = left; width = width; margin_right = right }

abbrev length_of : ℤ → Length
length_of v = record { 0 = v }

same_widths : (x y : BlockOut) → x.margin_left ≡ y.margin_left → x.width ≡ y.width → x.margin_right ≡ y.margin_right → x ≡ y
same_widths x y left width right =
    let e : widths_of x.margin_left x.width x.margin_right ≡ widths_of y.margin_left y.width y.margin_right = rw (left, width, right) refl in
    e

pub one_cell_sizes_lem : OneCellSizes
one_cell_sizes_lem containing cell s y z p q =
    let edges = p.edges ∙ sym q.edges in
    let width : y.widths.width.0 ≡ z.widths.width.0 = p.width ∙ ap (content_width cell) edges ∙ sym q.width in
    let widths = same_widths y.widths z.widths (p.margin_left ∙ sym q.margin_left) (ap length_of width) (p.margin_right ∙ sym q.margin_right) in
    same_sizes y z (p.containing_is ∙ sym q.containing_is) widths edges (p.margin_top ∙ sym q.margin_top) (p.margin_bottom ∙ sym q.margin_bottom)
    (p.height ∙ sym q.height) (p.min_height ∙ sym q.min_height) (p.max_height ∙ sym q.max_height)
