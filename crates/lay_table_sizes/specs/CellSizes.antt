-- The used sizes of a table cell's own box (CSS 2.2, 17.5.2 and 17.5.3). Its border box is as wide as the columns that it spans
-- with the spacings between them; its borders come from its style, or where borders collapse, are the halves that lie in it
-- (17.6.2). Percentages are of the content box of the table box. Cells have no margins (8.3), and `min-width`, `max-width`,
-- `min-height` and `max-height` have no effect on them (10.4 and 10.7 leave it undefined). A `height` that is a percentage of
-- a height that depends on content is `auto` (10.5).
use Rattle.std.specs.Prelude.{◌≡◌, ℕ, ◌+◌, ◌-◌, ◌==◌, ℤ, pos, ◌+ℤ◌, ◌-ℤ◌, ◌*ℤ◌, Option, Some, None, List, [], ◌∷◌, if◌then◌else◌}
use Rattle.std.specs.List.{slice_range}
use Rattle.lay_units.specs.Units.{clamp_size_of}
use Rattle.lay_units.specs.declared.length.Unit.{Unit as Length}
use Rattle.lay_units.specs.declared.records.Sides.{Sides}
use Rattle.lay_units.specs.Lengths.{no_length}
use Rattle.lay_style.specs.declared.style.Style.{Style}
use Rattle.lay_sizes.specs.UsedLengths.{edge_of, used_height}
use Rattle.lay_sizes.specs.declared.sizing.BoxSizes.{BoxSizes}
use Rattle.lay_sizes.specs.declared.sizing.ContainingBlock.{ContainingBlock}
use Rattle.lay_grid.specs.Shares.{sum_of}
use Rattle.lay_table_grid.specs.declared.grid.TableCell.{TableCell}
use Rattle.lay_table_sizes.specs.declared.cell_size.CellSize.{CellSize}

-- how wide the columns of a cell are, with the spacings between them
abbrev pub columns_width : Length → List Length → TableCell → ℤ
columns_width spacing columns c =
    sum_of (slice_range columns c.column (c.column + c.columns)) +ℤ (spacing.0 *ℤ pos (c.columns - 1))

abbrev pub cell_size : Length → List Length → TableCell → CellSize
cell_size spacing columns c = record { width = record { 0 = columns_width spacing columns c }; borders = c.borders }

-- the size of the cell whose box stands at k, and none where no cell's does
abbrev pub cell_size_at : Length → List Length → List TableCell → ℕ → Option CellSize
cell_size_at spacing columns [] k = None
cell_size_at spacing columns (c ∷ cells) k =
    if c.place == k then Some (cell_size spacing columns c) else cell_size_at spacing columns cells k

-- the borders and paddings of a cell
abbrev pub cell_insets : ContainingBlock → CellSize → Style → Sides
cell_insets containing cell s = record {
  top = edge_of containing.width cell.borders.top s.padding.top;
  right = edge_of containing.width cell.borders.right s.padding.right;
  bottom = edge_of containing.width cell.borders.bottom s.padding.bottom;
  left = edge_of containing.width cell.borders.left s.padding.left;
}

-- what they leave of its border box, if anything
abbrev pub content_width : CellSize → Sides → ℤ
content_width cell insets = clamp_size_of (cell.width.0 -ℤ (insets.left.0 +ℤ insets.right.0))

-- these are the used sizes of the box of a cell of this style, beside the content box of its table box
pub record IsCellSized (containing : ContainingBlock) (cell : CellSize) (s : Style) (z : BoxSizes) : Type 0 where
  pub containing_is : z.containing ≡ containing.width
  pub edges : z.edges ≡ cell_insets containing cell s
  pub width : z.widths.width.0 ≡ content_width cell z.edges
  pub margin_left : z.widths.margin_left ≡ no_length
  pub margin_right : z.widths.margin_right ≡ no_length
  pub margin_top : z.margin_top ≡ no_length
  pub margin_bottom : z.margin_bottom ≡ no_length
  pub height : z.height ≡ used_height containing.height s.sizing.height
  pub min_height : z.min_height ≡ no_length
  pub max_height : z.max_height ≡ None
