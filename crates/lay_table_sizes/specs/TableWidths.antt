-- The preferred widths of a table (CSS 2.2, 10.3.5 and 17.5.2), and its bounds where it is laid out by the automatic algorithm. Then it
-- is by its columns at their minimums and at their maximums, with the spacings beside them, and no narrower than its captions can be.
-- A `width` of the table that is a length counts where it is greater, and then `min-width` and `max-width` that are lengths (10.4).
use Rattle.std.specs.Prelude.{◌≡◌, Bool, true, false, ℤ, ◌+ℤ◌, ◌-ℤ◌, List}
use Rattle.std.specs.Int.{int_max}
use Rattle.lay_units.specs.declared.length.Unit.{Unit as Length}
use Rattle.lay_style.specs.declared.style.Style.{Style}
use Rattle.lay_box_tree.specs.declared.box_tree.BoxNode.{BoxNode}
use Rattle.lay_measure.specs.declared.preferred_widths.PreferredWidths.{PreferredWidths}
use Rattle.lay_table_grid.specs.TableGrid.{IsTableGrid, TableGridValue}
use Rattle.lay_table_sizes.specs.ColumnBounds.{greatest_content, least_content}
use Rattle.lay_table_sizes.specs.TableLayouts.{is_fixed}
use Rattle.lay_table_sizes.specs.PreferredWidths.{HasFixedWidths, bounded_content}
use Rattle.lay_table_sizes.specs.TableBounds.{HasBounds, TableBoundsValue, no_bounds}
use Rattle.lay_table_sizes.specs.TableBoxes.{preferred_edges, style_of_table, wrapper_style}

-- the width of the border box of a table whose columns come to so much with their spacings, and whose captions can be so narrow
abbrev pub auto_part : TableGridValue → Style → (captions : Length) → (content : ℤ) → Length
auto_part g s captions content =
    record { 0 = bounded_content s (int_max content (captions.0 -ℤ preferred_edges g s)) +ℤ preferred_edges g s }

-- these are the preferred widths and the bounds of a table that is laid out by the automatic algorithm
pub record HasAutoWidths (boxes : List BoxNode) (inner : List PreferredWidths) (w : PreferredWidths) (t : TableBoundsValue) : Type 0 where
  pub grid : TableGridValue
  pub is_grid : IsTableGrid boxes grid
  pub bounds : HasBounds boxes inner grid t
  pub minimum : w.minimum ≡ auto_part grid (style_of_table boxes grid) t.captions (least_content grid t.columns)
  pub preferred : w.preferred ≡ auto_part grid (style_of_table boxes grid) t.captions (greatest_content grid t.columns)

abbrev pub HasTableWidthsAs : (is_fixed : Bool) → List BoxNode → List PreferredWidths → PreferredWidths → TableBoundsValue → Type 0
HasTableWidthsAs true boxes inner w t = HasFixedWidths boxes inner w × (t ≡ no_bounds)
HasTableWidthsAs false boxes inner w t = HasAutoWidths boxes inner w t

-- these are the preferred widths and the bounds of the table of these boxes, where those at `inner` are of the boxes of its cells and
-- captions
abbrev pub HasTableWidths : List BoxNode → List PreferredWidths → PreferredWidths → TableBoundsValue → Type 0
HasTableWidths boxes inner w t = HasTableWidthsAs (is_fixed (wrapper_style boxes)) boxes inner w t
