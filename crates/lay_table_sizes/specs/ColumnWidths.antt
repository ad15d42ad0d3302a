-- What gives columns their widths in the fixed table layout (CSS 2.2, 17.5.2.1): "a column element with a value other than
-- 'auto' for the 'width' property", else a cell in the first row, which counts with its border box. The section knows no widths
-- of column groups, and those have no effect here, and neither have `min-width` and `max-width` of columns and cells (10.4 leaves
-- these undefined). A percentage of a `width` is of what the spacings leave of the width that the table is to have, before its columns
-- widen it; one of a padding is of that whole width. Where the width of the table isn't known, the first counts as `auto` and the
-- second as 0.
--
-- A table of 6400 units whose first cell has the `width` 50% and paddings of 64 units: its column is 3328 units wide. With two columns
-- and spacings of 128 units between and beside them it is 3136 units wide.
use Rattle.std.specs.Prelude.{ℕ, zero, suc, ◌+◌, ◌==◌, ℤ, pos, ◌+ℤ◌, ◌-ℤ◌, ◌*ℤ◌, Option, Some}
use Rattle.std.specs.Prelude.{None, List, [], ◌∷◌, ◌++◌, slice_get, if◌then◌else◌}
use Rattle.std.specs.Int.{int_max}
use Rattle.lay_units.specs.declared.length.Unit.{Unit as Length}
use Rattle.lay_units.specs.declared.records.Len.{Len}
use Rattle.lay_units.specs.declared.records.Len.TheVariants.{Auto as auto, Of as of}
use Rattle.lay_units.specs.declared.records.Sides.{Sides}
use Rattle.lay_style.specs.declared.style.Style.{Style}
use Rattle.lay_style.specs.declared.style_lengths.LengthPercentage.{LengthPercentage}
use Rattle.lay_style.specs.declared.style_lengths.LengthPercentageOrAuto.{LengthPercentageOrAuto}
use Rattle.lay_box_tree.specs.declared.box_tree.BoxKind.{BoxKind}
use Rattle.lay_box_tree.specs.declared.box_tree.BoxKind.TheVariants as kind
use Rattle.lay_box_tree.specs.declared.box_tree.BoxNode.{BoxNode}
use Rattle.lay_box_tree.specs.BoxColumns.{style_of_box}
use Rattle.lay_sizes.specs.UsedLengths.{used_size, used_width}
use Rattle.lay_measure.specs.Contributions.{size_or_zero}
use Rattle.lay_measure.specs.ReplacedWidths.{length_or_auto}
use Rattle.lay_grid.specs.declared.columns.ColumnsIn.{ColumnsIn}
use Rattle.lay_grid.specs.declared.columns.FirstCell.{FirstCell}
use Rattle.lay_table_grid.specs.TableGrid.{TableGridValue}
use Rattle.lay_table_grid.specs.declared.grid.TableCell.{TableCell}
use Rattle.lay_table_sizes.specs.TableBoxes.{inset}

-- what the spacings before so many columns and after the last leave of the width of a table, if anything
abbrev pub left_by_spacings : Length → ℕ → (table : Length) → Length
left_by_spacings spacing columns table = record { 0 = int_max (pos 0) (table.0 -ℤ (spacing.0 *ℤ pos (columns + 1))) }

-- the same of a width that is None where it isn't known
abbrev pub left_for_columns : TableGridValue → Option Length → Option Length
left_for_columns g None = None
left_for_columns g (Some table) = Some (left_by_spacings g.spacing.across g.columns table)

-- a `width` beside what is left for the columns, and a padding beside the width of the table; each of these is None where it isn't known
abbrev pub given_width : Option Length → LengthPercentageOrAuto → Len
given_width None width = length_or_auto width
given_width (Some left) width = used_width left width

abbrev pub given_padding : Option Length → LengthPercentage → Length
given_padding None padding = size_or_zero padding
given_padding (Some table) padding = used_size table padding

abbrev pub or_none : Len → Option Length
or_none auto = None
or_none (of width) = Some width

-- the same with edges of this width
abbrev pub with_edges : ℤ → Len → Option Length
with_edges edges auto = None
with_edges edges (of width) = Some (record { 0 = width.0 +ℤ edges })

-- the width of a column element
abbrev pub width_by_kind : Option Length → BoxKind → Style → Option Length
width_by_kind left (kind.Column span) s = or_none (given_width left s.sizing.width)
width_by_kind left _ s = None

abbrev pub width_by_box : Option Length → Option BoxNode → Option Length
width_by_box left None = None
width_by_box left (Some b) = width_by_kind left b.kind b.style

abbrev pub width_by_place : Option Length → List BoxNode → Option ℕ → Option Length
width_by_place left boxes None = None
width_by_place left boxes (Some place) = width_by_box left (slice_get boxes place)

-- those of the first n columns, where the boxes at these places stand for the first ones
abbrev pub element_widths : Option Length → List BoxNode → List ℕ → ℕ → List (Option Length)
element_widths left boxes places zero = []
element_widths left boxes places (suc n) =
    element_widths left boxes places n ++ width_by_place left boxes (slice_get places n) ∷ []

-- the borders and paddings of a cell on its left and right
abbrev pub cell_edges : Option Length → Sides → Style → ℤ
cell_edges table borders s =
    (inset borders.left (given_padding table s.padding.left)).0 +ℤ (inset borders.right (given_padding table s.padding.right)).0

-- the width of a cell's border box, where its `width` says one
abbrev pub cell_width : (table left : Option Length) → Sides → Style → Option Length
cell_width table left borders s = with_edges (cell_edges table borders s) (given_width left s.sizing.width)

abbrev pub first_cell : (table left : Option Length) → List BoxNode → TableCell → FirstCell
first_cell table left boxes c = record {
  column = c.column;
  span = c.columns;
  width = cell_width table left c.borders (style_of_box boxes c.place);
}

-- the cells of the first row
abbrev pub first_cells : (table left : Option Length) → List BoxNode → List TableCell → List FirstCell
first_cells table left boxes [] = []
first_cells table left boxes (c ∷ cells) =
    if c.row == 0 then first_cell table left boxes c ∷ first_cells table left boxes cells else first_cells table left boxes cells

-- what the columns of a table depend on that is to have the width `wanted`, where percentages are of `table` and of what is left of it
abbrev pub columns_in : Option Length → List BoxNode → TableGridValue → (wanted : Length) → ColumnsIn
columns_in table boxes g wanted = record {
  given = element_widths (left_for_columns g table) boxes g.column_boxes g.columns;
  first = first_cells table (left_for_columns g table) boxes g.cells;
  width = wanted;
  spacing = g.spacing.across;
}

-- How wide columns are that come to so much, with the spacings before each and after the last. Where there are no columns, there
-- are no spacings (17.6.1 has them between the borders of cells).
abbrev pub with_spacings : Length → ℕ → ℤ → ℤ
with_spacings spacing zero sum = sum
with_spacings spacing (suc n) sum = sum +ℤ (spacing.0 *ℤ pos (n + 2))
