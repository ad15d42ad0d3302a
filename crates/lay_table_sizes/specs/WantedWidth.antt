-- The width that the content of a table is to have, between its inner padding edges, the spacings beside its columns among it
-- (CSS 2.2, 17.5.2, 17.6.1). In the fixed layout it is the table's `width`, between `min-width` and `max-width` (10.4), before its columns
-- are looked at. In the automatic one (17.5.2.2) it is no less than these at their minimums and than its captions.
use Rattle.std.specs.Prelude.{◌≡◌, ℤ, List}
use Rattle.lay_units.specs.declared.length.Unit.{Unit as Length}
use Rattle.lay_box_tree.specs.declared.box_tree.BoxNode.{BoxNode}
use Rattle.lay_widths.specs.BlockWidths.{IsUsedBlock}
use Rattle.lay_widths.specs.declared.widths.BlockOut.{BlockOut}
use Rattle.lay_table_grid.specs.TableGrid.{TableGridValue}
use Rattle.lay_table_sizes.specs.AutoWidth.{IsAutoWidth}
use Rattle.lay_table_sizes.specs.ColumnBounds.{greatest_content, least_content}
use Rattle.lay_table_sizes.specs.TableBounds.{TableBoundsValue}
use Rattle.lay_table_sizes.specs.TableBoxes.{table_block, style_of_table, wrapper_style}

-- the width of a table of the fixed layout
pub record IsFixedWidth (containing : Length) (boxes : List BoxNode) (g : TableGridValue) (wanted : Length) : Type 0 where
  pub out : BlockOut
  pub is_used : IsUsedBlock (table_block g containing (wrapper_style boxes) (style_of_table boxes g)) out
  pub wanted_is : wanted ≡ out.width

abbrev pub length_of : ℤ → Length
length_of v = record { 0 = v }

-- the width of a table of the automatic layout
abbrev pub HasAutoWidth : (containing : Length) → List BoxNode → TableGridValue → TableBoundsValue → (wanted : Length) → Type 0
HasAutoWidth containing boxes g t wanted =
    IsAutoWidth (table_block g containing (wrapper_style boxes) (style_of_table boxes g)) (length_of (least_content g t.columns))
    (length_of (greatest_content g t.columns)) t.captions wanted
