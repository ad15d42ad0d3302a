-- What gives columns their widths meets what lay_grid asks, and so the columns are positions.
use Rattle.std.proofs.Common.{ℕ, zero, suc, ◌+◌, ◌*◌, ◌≤◌, ◌==◌, ◌^◌, Bool, true, false, ℤ, Option, None, Some, List, [], ◌∷◌, length, slice_get, slice_index_or, if◌then◌else◌, sym, subst, arith}
use Rattle.std.specs.List.{All}
use Rattle.std.proofs.lemmas.Int.{ints}
use Rattle.std.proofs.lemmas.List.Elements.{All-append, All-cons, All-head, All-nil, All-tail}
use Rattle.lay_units.specs.Units.{IsUsedSize, percentage_of}
use Rattle.lay_units.specs.declared.length.Unit.{Unit as Length}
use Rattle.lay_units.specs.declared.records.Len.{Len}
use Rattle.lay_units.specs.declared.records.Len.TheVariants.{Auto as auto, Of as of}
use Rattle.lay_units.specs.declared.records.Sides.{Sides}
use Rattle.lay_style.specs.declared.style.Style.{Style}
use Rattle.lay_style.specs.declared.style_lengths.LengthPercentage.{LengthPercentage}
use Rattle.lay_style.specs.declared.style_lengths.LengthPercentage.TheVariants as measure
use Rattle.lay_style.specs.declared.style_lengths.LengthPercentageOrAuto.{LengthPercentageOrAuto}
use Rattle.lay_style.specs.declared.style_lengths.LengthPercentageOrAuto.TheVariants as or_auto
use Rattle.lay_box_tree.specs.declared.box_tree.BoxKind.{BoxKind}
use Rattle.lay_box_tree.specs.declared.box_tree.BoxKind.TheVariants as kind
use Rattle.lay_box_tree.specs.declared.box_tree.BoxNode.{BoxNode}
use Rattle.lay_box_tree.specs.BoxColumns.{style_of_box}
use Rattle.lay_sizes.specs.SizeBounds.{IsUsedSizeOrAuto}
use Rattle.lay_table_sizes.proofs.Cited.{size_is_used, used_size_is_used, widths_are_within_lem, zero_is_size}
use Rattle.lay_grid.specs.ColumnsFit.{CellFits, ColumnsFit}
use Rattle.lay_grid.specs.Lengths.{ArePositions, MayBePosition}
use Rattle.lay_grid.specs.Shares.{own_width}
use Rattle.lay_grid.specs.declared.columns.FirstCell.{FirstCell}
use Rattle.lay_grid.specs.Within.{AreUpTo, CellUpTo, IsUpTo}
use Rattle.lay_table_grid.specs.UsedSides.{AreUsedSides}
use Rattle.lay_table_grid.specs.GridBounds.{CellFits as GridCellFits, TableGridFits}
use Rattle.lay_table_grid.specs.TableGrid.{TableGridValue}
use Rattle.lay_table_grid.specs.declared.grid.TableCell.{TableCell}
use Rattle.lay_table_sizes.specs.Bounds.{IsEdge, most_columns}
use Rattle.lay_table_sizes.specs.ColumnWidths.{cell_edges, cell_width, columns_in, element_widths, first_cell, first_cells, given_padding, given_width, left_for_columns, or_none, width_by_box, width_by_kind, width_by_place, with_edges}
use Rattle.lay_table_sizes.proofs.ColumnSteps.{element_widths_count}

-- no column of a document is given more: a used size, and the edges beside it
abbrev most : ℕ
most = 2 ^ 34

abbrev MayBeUpTo : Option Length → Type 0
MayBeUpTo own = IsUpTo most (own_width own)

none_is : MayBeUpTo None
none_is = (omega (arith, ints), omega (arith, ints))

or_none_is : (width : Len) → IsUsedSizeOrAuto width → MayBeUpTo (or_none width)
or_none_is auto is = none_is
or_none_is (of width) is = (is.0, omega (arith, ints, is.1))

with_edges_is : (edges : ℤ) (width : Len) → IsEdge edges → IsUsedSizeOrAuto width → MayBeUpTo (with_edges edges width)
with_edges_is edges auto among is = none_is
with_edges_is edges (of width) among is = (omega (arith, ints, is.0, among.0), omega (arith, ints, is.1, among.1))

given_width_is : (table : Option Length) (width : LengthPercentageOrAuto) → IsUsedSizeOrAuto (given_width table width)
given_width_is None or_auto.Auto = tt
given_width_is None (or_auto.Length u) = size_is_used u.0
given_width_is None (or_auto.Percent h) = tt
given_width_is (Some table) or_auto.Auto = tt
given_width_is (Some table) (or_auto.Length u) = size_is_used u.0
given_width_is (Some table) (or_auto.Percent h) = size_is_used (percentage_of h.0 table.0)

given_padding_is : (table : Option Length) (padding : LengthPercentage) → IsUsedSize (given_padding table padding).0
given_padding_is None (measure.Length u) = size_is_used u.0
given_padding_is None (measure.Percent h) = zero_is_size
given_padding_is (Some table) padding = used_size_is_used table padding

cell_edges_is : (table : Option Length) (borders : Sides) (s : Style) → AreUsedSides borders → IsEdge (cell_edges table borders s)
cell_edges_is table borders s are =
    let left = given_padding_is table s.padding.left in
    let right = given_padding_is table s.padding.right in
    (omega (arith, ints, are.left.0, are.right.0, left.0, right.0), omega (arith, ints, are.left.1, are.right.1, left.1, right.1))

kind_is : (table : Option Length) (kind : BoxKind) (s : Style) → MayBeUpTo (width_by_kind table kind s)
kind_is table (kind.Column span) s = or_none_is (given_width table s.sizing.width) (given_width_is table s.sizing.width)
kind_is table _ s = none_is

box_is : (table : Option Length) (box : Option BoxNode) → MayBeUpTo (width_by_box table box)
box_is table None = none_is
box_is table (Some b) = kind_is table b.kind b.style

place_is : (table : Option Length) (boxes : List BoxNode) (place : Option ℕ) → MayBeUpTo (width_by_place table boxes place)
place_is table boxes None = none_is
place_is table boxes (Some place) = box_is table (slice_get boxes place)

elements_are : (table : Option Length) (boxes : List BoxNode) (places : List ℕ) (n : ℕ) → All MayBeUpTo (element_widths table boxes places n)
elements_are table boxes places zero = All-nil MayBeUpTo
elements_are table boxes places (suc n) =
    All-append MayBeUpTo (element_widths table boxes places n) (width_by_place table boxes (slice_get places n) ∷ []) (elements_are table boxes places n)
    (All-cons MayBeUpTo (width_by_place table boxes (slice_get places n)) [] (place_is table boxes (slice_get places n)) (All-nil MayBeUpTo))

is_position : (own : Option Length) → MayBeUpTo own → MayBePosition own
is_position None is = tt
is_position (Some width) is = (omega (arith, ints, is.0), omega (arith, ints, is.1))

all_positions : (owns : List (Option Length)) → All MayBeUpTo owns → All MayBePosition owns
all_positions owns are k d lt = is_position (slice_index_or owns k d) (are k d lt)

-- what is known of the first cell that a cell of the grid is
record FirstFits (columns : ℕ) (cell : FirstCell) : Type 0 where
  fits : CellFits columns cell
  up_to : CellUpTo most cell

first_fits : (table left : Option Length) (boxes : List BoxNode) (rows columns : ℕ) (c : TableCell) → GridCellFits rows columns c → FirstFits columns (first_cell table left boxes c)
first_fits table left boxes rows columns c fits =
    let width = with_edges_is (cell_edges table c.borders (style_of_box boxes c.place)) (given_width left (style_of_box boxes c.place).sizing.width)
    (cell_edges_is table c.borders (style_of_box boxes c.place) fits.borders) (given_width_is left (style_of_box boxes c.place).sizing.width) in
    record {
      fits = record { some = fits.some_columns; inside = fits.last_column; width = is_position (cell_width table left c.borders (style_of_box boxes c.place)) width };
      up_to = record { some = fits.some_columns; width = width.1 };
    }

firsts_fit : (table left : Option Length) (boxes : List BoxNode) (rows columns : ℕ) (cells : List TableCell) → All (GridCellFits rows columns) cells → All (FirstFits columns) (first_cells table left boxes cells)
firsts_fit table left boxes rows columns [] are = All-nil (FirstFits columns)
firsts_fit table left boxes rows columns (c ∷ cells) are =
    by (c.row == 0) (first_fits table left boxes rows columns c (All-head (GridCellFits rows columns) c cells are))
    (firsts_fit table left boxes rows columns cells (All-tail (GridCellFits rows columns) c cells are))
  where
    by : (b : Bool) → FirstFits columns (first_cell table left boxes c) → All (FirstFits columns) (first_cells table left boxes cells)
        → All (FirstFits columns) (if b then first_cell table left boxes c ∷ first_cells table left boxes cells else first_cells table left boxes cells)
    by true here rest = All-cons (FirstFits columns) (first_cell table left boxes c) (first_cells table left boxes cells) here rest
    by false here rest = rest

-- widths of so few columns are positions
widths_are_positions : (n : ℕ) (widths : List Length) → n ≤ most_columns → AreUpTo (most * (n + 1)) widths → ArePositions widths
widths_are_positions n widths few are k d lt = let up = are k d lt in (omega (arith, ints, up.0), omega (arith, ints, up.1, few))

pub columns_fit : (table : Option Length) (boxes : List BoxNode) (g : TableGridValue) (wanted : Length) → TableGridFits g → g.columns ≤ most_columns → IsUsedSize wanted.0 → ColumnsFit (columns_in table boxes g wanted)
columns_fit table boxes g wanted fits few is =
    let counted = element_widths_count (left_for_columns g table) boxes g.column_boxes g.columns in
    let given = elements_are (left_for_columns g table) boxes g.column_boxes g.columns in
    let first = firsts_fit table (left_for_columns g table) boxes (length g.rows) g.columns g.cells fits.cells in
    record {
      few = omega (arith, counted, few);
      given = all_positions (element_widths (left_for_columns g table) boxes g.column_boxes g.columns) given;
      first = λ k d lt. subst (λ (n : ℕ). CellFits n (slice_index_or (first_cells table (left_for_columns g table) boxes g.cells) k d)) (sym counted) (first k d lt).fits;
      width = (omega (arith, ints, is.0), omega (arith, ints, is.1));
      spacing = (omega (arith, ints, fits.spacing.across.0), omega (arith, ints, fits.spacing.across.1));
      widths = λ widths are. widths_are_positions g.columns widths few (subst (λ (n : ℕ). AreUpTo (most * (n + 1)) widths) counted
          (widths_are_within_lem (columns_in table boxes g wanted) most widths (record {
            given = given;
            first = λ k d lt. (first k d lt).up_to;
            width = omega (arith, ints, is.1);
            spacing = fits.spacing.across.0;
          }) are));
    }
