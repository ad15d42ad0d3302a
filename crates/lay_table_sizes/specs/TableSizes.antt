-- The used sizes of a table (CSS 2.2, 17.4 and 17.5.2): its columns, as wide as the table layout makes them, the fixed or the automatic
-- one, for the width that the table is to have; the content of its table box, which "is at least as wide as its columns"; its cells; and
-- its wrapper, as wide as the border box of the table box. The margins of a table that is a block in flow come of the equation of
-- 10.3.3 with that width as a given one; those of another one are 0 where they are `auto` (10.3.5). Captions widen a table of the
-- automatic layout alone. All are held within the bounds of used lengths (4.3.2). The boxes of captions and cells are sized in their own
-- formatting contexts, and rows, row groups and columns have no sizes of a box.
use Rattle.std.specs.Prelude.{◌≡◌, ℕ, zero, suc, ◌<◌, ◌==◌, ◌-ℤ◌, Bool, true, false, List, length, map, Some, None, if◌then◌else◌}
use Rattle.std.specs.Int.{int_max}
use Rattle.lay_units.specs.Units.{clamp_size_of}
use Rattle.lay_units.specs.declared.length.Unit.{Unit as Length}
use Rattle.lay_units.specs.declared.records.BlockIn.{BlockIn}
use Rattle.lay_units.specs.declared.records.Len.TheVariants.{Auto as auto, Of as of}
use Rattle.lay_units.specs.Lengths.{no_length}
use Rattle.lay_style.specs.declared.style.Style.{Style}
use Rattle.lay_box_tree.specs.declared.box_tree.BoxNode.{BoxNode}
use Rattle.lay_widths.specs.BlockWidths.{IsHeld, IsUsedBlock}
use Rattle.lay_widths.specs.declared.widths.BlockOut.{BlockOut}
use Rattle.lay_sizes.specs.BoxSizes.{border_width, widths_beside}
use Rattle.lay_sizes.specs.SizeColumns.{no_edges, no_sizes, sizes_at}
use Rattle.lay_sizes.specs.UsedLengths.{used_height, used_margin, used_max_height, used_min_height, used_vertical_margin}
use Rattle.lay_sizes.specs.declared.sizing.BoxSizes.{BoxSizes}
use Rattle.lay_sizes.specs.declared.sizing.ContainingBlock.{ContainingBlock}
use Rattle.lay_grid.specs.Columns.{AreColumns}
use Rattle.lay_grid.specs.Shares.{sum_of}
use Rattle.lay_grid.specs.Automatic.AutoColumns.{AreAutoColumns}
use Rattle.lay_table_grid.specs.TableGrid.{IsTableGrid, TableGridValue}
use Rattle.lay_table_sizes.specs.ColumnBounds.{spaces}
use Rattle.lay_table_sizes.specs.TableLayouts.{is_fixed}
use Rattle.lay_table_sizes.specs.CellSizes.{cell_size_at}
use Rattle.lay_table_sizes.specs.ColumnWidths.{columns_in, with_spacings}
use Rattle.lay_table_sizes.specs.TableBounds.{TableBoundsValue, bounds_of_columns}
use Rattle.lay_table_sizes.specs.TableBoxes.{table_edges, style_of_table, wrapper_style}
use Rattle.lay_table_sizes.specs.TableSizesValue.{TableSizesValue, cell_at}
use Rattle.lay_table_sizes.specs.WantedWidth.{HasAutoWidth, IsFixedWidth}
use Rattle.lay_table_sizes.specs.declared.table_rule.TableRule.{TableRule}
use Rattle.lay_table_sizes.specs.declared.table_rule.TableRule.TheVariants.{Block, ShrinkToFit}

-- used widths of columns
abbrev pub held_width : Length → Length
held_width width = record { 0 = clamp_size_of width.0 }

abbrev pub held : List Length → List Length
held widths = map held_width widths

-- the used width of the content of a table box that is to have the width `wanted` and has these columns
abbrev pub table_width : TableGridValue → (wanted : Length) → List Length → Length
table_width g wanted columns =
    record { 0 = clamp_size_of (int_max wanted.0 (with_spacings g.spacing.across g.columns (sum_of columns))) }

-- the table box in its wrapper: it has no margins there, and its height is beside the wrapper's containing block
abbrev pub table_box_sizes : TableGridValue → ContainingBlock → Style → (width : Length) → BoxSizes
table_box_sizes g containing s width = record {
  containing = containing.width;
  widths = record { margin_left = no_length; width = width; margin_right = no_length };
  edges = table_edges g containing.width s;
  margin_top = no_length;
  margin_bottom = no_length;
  height = used_height containing.height s.sizing.height;
  min_height = used_min_height containing.height s.sizing.min_height;
  max_height = used_max_height containing.height s.sizing.max_height;
}

-- a wrapper of this width is a block with a given one
abbrev pub wrapper_block : Length → Style → (width : Length) → BlockIn
wrapper_block containing s width = record {
  containing_width = containing;
  margin_left = used_margin containing s.margin.left;
  border_left = no_length;
  padding_left = no_length;
  width = of width;
  padding_right = no_length;
  border_right = no_length;
  margin_right = used_margin containing s.margin.right;
  min_width = no_length;
  max_width = None;
}

abbrev pub AreWrapperWidths : TableRule → Length → Style → (width : Length) → BlockOut → Type 0
AreWrapperWidths Block containing s width out = IsUsedBlock (wrapper_block containing s width) out
AreWrapperWidths ShrinkToFit containing s width out = IsHeld (widths_beside (wrapper_block containing s width) width.0) out

-- how wide the wrapper of a table box of these sizes is
abbrev pub wrapper_width : BoxSizes → Length
wrapper_width table = record { 0 = clamp_size_of (border_width table) }

pub record IsWrapperSized (rule : TableRule) (containing : ContainingBlock) (s : Style) (table z : BoxSizes) : Type 0 where
  pub containing_is : z.containing ≡ containing.width
  pub widths : AreWrapperWidths rule containing.width s (wrapper_width table) z.widths
  pub edges : z.edges ≡ no_edges
  pub margin_top : z.margin_top ≡ used_vertical_margin containing.width s.margin.top
  pub margin_bottom : z.margin_bottom ≡ used_vertical_margin containing.width s.margin.bottom
  pub height : z.height ≡ auto
  pub min_height : z.min_height ≡ no_length
  pub max_height : z.max_height ≡ None

-- the sizes of the box at k, where those of the wrapper and of the table box are these
abbrev pub sizes_of_box : (place : ℕ) (wrapper table : BoxSizes) → ℕ → BoxSizes
sizes_of_box place wrapper table zero = wrapper
sizes_of_box place wrapper table (suc k) = if suc k == place then table else no_sizes

-- the width of a table of the fixed layout, and the widths of its columns
abbrev pub AreFixedWidths : Length → List BoxNode → TableGridValue → (wanted : Length) → List Length → Type 0
AreFixedWidths containing boxes g wanted widths =
    IsFixedWidth containing boxes g wanted × AreColumns (columns_in (Some wanted) boxes g wanted) widths

-- those of one of the automatic layout with these bounds
abbrev pub AreAutoWidths : Length → List BoxNode → TableGridValue → TableBoundsValue → (wanted : Length) → List Length → Type 0
AreAutoWidths containing boxes g t wanted widths =
    HasAutoWidth containing boxes g t wanted × AreAutoColumns t.columns (wanted.0 -ℤ spaces g) widths

-- `wanted` is the width that the table is to have and `widths` are those of its columns, before they are held
abbrev pub AreTableWidthsAs : (is_fixed : Bool) → Length → List BoxNode → TableGridValue → TableBoundsValue
    → (wanted : Length) → List Length → Type 0
AreTableWidthsAs true containing boxes g t wanted widths = AreFixedWidths containing boxes g wanted widths
AreTableWidthsAs false containing boxes g t wanted widths =
    AreAutoWidths containing boxes g (bounds_of_columns g.columns t) wanted widths

abbrev pub AreTableWidths : Length → List BoxNode → TableGridValue → TableBoundsValue → (wanted : Length) → List Length → Type 0
AreTableWidths containing boxes g t wanted widths =
    AreTableWidthsAs (is_fixed (wrapper_style boxes)) containing boxes g t wanted widths

-- the used sizes of the boxes of a table's formatting context, and its columns and cells
pub record HasTableSizes (containing : ContainingBlock) (rule : TableRule) (bounds : TableBoundsValue)
    (boxes : List BoxNode) (sizes : List BoxSizes) (t : TableSizesValue) : Type 0 where
  pub grid : IsTableGrid boxes t.grid
  pub wanted : Length
  pub widths : List Length
  pub are_widths : AreTableWidths containing.width boxes t.grid bounds wanted widths
  pub columns : t.columns ≡ held widths
  pub cell_count : length t.cells ≡ length boxes
  pub cells : (k : ℕ) → k < length boxes → cell_at t k ≡ cell_size_at t.grid.spacing.across t.columns t.grid.cells k
  pub table : BoxSizes
  pub table_is : table ≡ table_box_sizes t.grid containing (style_of_table boxes t.grid) (table_width t.grid wanted widths)
  pub wrapper : BoxSizes
  pub wrapper_is : IsWrapperSized rule containing (wrapper_style boxes) table wrapper
  pub count : length sizes ≡ length boxes
  pub each : (k : ℕ) → k < length boxes → sizes_at sizes k ≡ sizes_of_box t.grid.table wrapper table k
