-- The preferred widths of a table of the fixed layout (CSS 2.2, 10.3.5 and 17.5.2): those of the border box of its table box, by the sum
-- over its columns and the spacings beside them. A column has its own width by the fixed table layout (17.5.2.1), where lengths give
-- it one, else the greatest preferred width of the cells that it alone has. A `width` of the table that is a length counts where it is
-- greater, and then `min-width` and `max-width` that are lengths (10.4). How wide the containing block will be isn't known
-- yet, so percentages of widths count as `auto` and those of paddings as 0.
use Rattle.std.specs.Prelude.{◌≡◌, ℕ, ◌<◌, ◌==◌, ◌&&◌, ℤ, ◌+ℤ◌, Option, Some, None, List, [], ◌∷◌, length, slice_index_or, if◌then◌else◌}
use Rattle.std.specs.Int.{int_max}
use Rattle.lay_units.specs.declared.length.Unit.{Unit as Length}
use Rattle.lay_units.specs.declared.records.Sides.{Sides}
use Rattle.lay_units.specs.Lengths.{no_length}
use Rattle.lay_style.specs.declared.style.Style.{Style}
use Rattle.lay_heights.specs.MinMax.{with_min_max_of}
use Rattle.lay_box_tree.specs.declared.box_tree.BoxNode.{BoxNode}
use Rattle.lay_box_tree.specs.BoxColumns.{style_of_box}
use Rattle.lay_measure.specs.Contributions.{bounded_width, given_or, limit_of, size_or_zero}
use Rattle.lay_measure.specs.MeasureInValue.{no_widths}
use Rattle.lay_measure.specs.declared.preferred_widths.PreferredWidths.{PreferredWidths}
use Rattle.lay_grid.specs.Columns.{AreOwn}
use Rattle.lay_grid.specs.Shares.{own_at}
use Rattle.lay_table_grid.specs.TableGrid.{IsTableGrid, TableGridValue}
use Rattle.lay_table_grid.specs.declared.grid.TableCell.{TableCell}
use Rattle.lay_table_sizes.specs.ColumnWidths.{cell_edges, columns_in, with_spacings}
use Rattle.lay_table_sizes.specs.TableBoxes.{preferred_edges, style_of_table}

-- the preferred widths at k
abbrev pub widths_at : List PreferredWidths → ℕ → PreferredWidths
widths_at widths k = slice_index_or widths k no_widths

-- what a cell of these borders takes of a preferred width of what is in it: that of its border box
abbrev pub cell_part : Sides → Style → Length → Length
cell_part borders s content = record { 0 = bounded_width s content +ℤ cell_edges None borders s }

abbrev pub cell_widths : List BoxNode → List PreferredWidths → TableCell → PreferredWidths
cell_widths boxes inner c = record {
  minimum = cell_part c.borders (style_of_box boxes c.place) (widths_at inner c.place).minimum;
  preferred = cell_part c.borders (style_of_box boxes c.place) (widths_at inner c.place).preferred;
}

abbrev pub wider : PreferredWidths → PreferredWidths → PreferredWidths
wider v w = record {
  minimum = record { 0 = int_max v.minimum.0 w.minimum.0 };
  preferred = record { 0 = int_max v.preferred.0 w.preferred.0 };
}

-- the greatest widths of the cells that the column i has for itself
abbrev pub content_widths : List BoxNode → List PreferredWidths → List TableCell → ℕ → PreferredWidths
content_widths boxes inner [] i = no_widths
content_widths boxes inner (c ∷ cells) i =
    if (c.column == i) && (c.columns == 1) then wider (cell_widths boxes inner c) (content_widths boxes inner cells i)
    else content_widths boxes inner cells i

-- a column with a width of its own, or with the widths of its cells
abbrev pub own_or : Option Length → PreferredWidths → PreferredWidths
own_or None content = content
own_or (Some width) content = record { minimum = width; preferred = width }

pub record AreColumnWidths (boxes : List BoxNode) (inner : List PreferredWidths) (g : TableGridValue) (columns : List PreferredWidths)
    : Type 0 where
  pub owns : List (Option Length)
  pub are_own : AreOwn (columns_in None boxes g no_length) owns
  pub count : length columns ≡ g.columns
  pub each : (i : ℕ) → i < g.columns → widths_at columns i ≡ own_or (own_at owns i) (content_widths boxes inner g.cells i)

-- all of them beside each other
abbrev pub widths_added : PreferredWidths → PreferredWidths → PreferredWidths
widths_added v w = record {
  minimum = record { 0 = v.minimum.0 +ℤ w.minimum.0 };
  preferred = record { 0 = v.preferred.0 +ℤ w.preferred.0 };
}

abbrev pub all_beside : List PreferredWidths → PreferredWidths
all_beside [] = no_widths
all_beside (w ∷ ws) = widths_added w (all_beside ws)

-- a width of a table's content, or its `width` where that is a greater length, between its bounds
abbrev pub bounded_content : Style → ℤ → ℤ
bounded_content s content =
    with_min_max_of (int_max content (given_or s.sizing.width no_length).0) (size_or_zero s.sizing.min_width).0
    (limit_of s.sizing.max_width)

-- the width of the border box of a table whose columns come to so much
abbrev pub table_part : TableGridValue → Style → Length → Length
table_part g s columns =
    record { 0 = bounded_content s (with_spacings g.spacing.across g.columns columns.0) +ℤ preferred_edges g s }

-- these are the preferred widths of the table of these boxes, where those at `inner` are of the boxes of its cells
pub record HasFixedWidths (boxes : List BoxNode) (inner : List PreferredWidths) (w : PreferredWidths) : Type 0 where
  pub grid : TableGridValue
  pub is_grid : IsTableGrid boxes grid
  pub columns : List PreferredWidths
  pub are_columns : AreColumnWidths boxes inner grid columns
  pub minimum : w.minimum ≡ table_part grid (style_of_table boxes grid) (all_beside columns).minimum
  pub preferred : w.preferred ≡ table_part grid (style_of_table boxes grid) (all_beside columns).preferred
