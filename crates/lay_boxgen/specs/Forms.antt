-- The words of CSS 2.2 for what a box is (9.2, 17.2 and 17.2.1). A table stands for the wrapper that holds
-- it (17.4) until the table box is made in the wrapper.
use Rattle.std.specs.Prelude.{Bool, true, false, ◌&&◌, ◌||◌, not}
use Rattle.lay_boxgen.specs.declared.facts.Facts.{Facts}
use Rattle.lay_box_tree.specs.declared.box_tree.Flow.{Flow}
use Rattle.lay_box_tree.specs.declared.box_tree.Flow.TheVariants as flow
use Rattle.lay_boxgen.specs.declared.facts.Form.{Form}
use Rattle.lay_boxgen.specs.declared.facts.Form.TheVariants.{Block, InlineBlock, Inline, Text, Replaced, Wrapper}
use Rattle.lay_boxgen.specs.declared.facts.Form.TheVariants.{InlineWrapper, Caption, RowGroup, HeaderGroup}
use Rattle.lay_boxgen.specs.declared.facts.Form.TheVariants.{FooterGroup, Row, ColumnGroup, Column, Cell, Anchor}
use Rattle.lay_boxgen.specs.declared.facts.TextForm.TheVariants.{Seen, White, Blank}

-- a row group box: a row group, a header group or a footer group
abbrev pub is_row_group : Form → Bool
is_row_group RowGroup = true
is_row_group HeaderGroup = true
is_row_group FooterGroup = true
is_row_group _ = false

-- a table or an inline-table
abbrev pub is_table : Form → Bool
is_table Wrapper = true
is_table InlineWrapper = true
is_table _ = false

abbrev pub is_row : Form → Bool
is_row Row = true
is_row _ = false

abbrev pub is_cell : Form → Bool
is_cell (Cell colspan rowspan) = true
is_cell _ = false

abbrev pub is_caption : Form → Bool
is_caption Caption = true
is_caption _ = false

abbrev pub is_column : Form → Bool
is_column (Column span) = true
is_column _ = false

abbrev pub is_column_group : Form → Bool
is_column_group (ColumnGroup span) = true
is_column_group _ = false

-- proper table children: rows, row groups, columns, column groups and captions
abbrev pub is_proper_table_child : Form → Bool
is_proper_table_child f = is_row f || is_row_group f || is_column f || is_column_group f || is_caption f

-- internal table boxes: cells, rows, row groups, columns and column groups
abbrev pub is_internal_table_box : Form → Bool
is_internal_table_box f = is_cell f || is_row f || is_row_group f || is_column f || is_column_group f

-- tabular containers: rows, row groups, tables and inline-tables
abbrev pub is_tabular_container : Form → Bool
is_tabular_container f = is_row f || is_row_group f || is_table f

-- captions and internal table boxes: what the rules call table parts here
abbrev pub is_table_part : Form → Bool
is_table_part f = is_caption f || is_internal_table_box f

-- proper table descendants: the table parts that can be below such a container with no table or
-- inline-table generated between. In a table these are all table parts, in a row group rows and cells, and
-- in a row cells.
abbrev pub is_proper_table_descendant : Form → Form → Bool
is_proper_table_descendant container f =
    (is_table container && is_table_part f)
    || (is_row_group container && (is_row f || is_cell f))
    || (is_row container && is_cell f)

abbrev pub is_inline : Form → Bool
is_inline Inline = true
is_inline _ = false

abbrev pub is_text : Form → Bool
is_text (Text t) = true
is_text _ = false

abbrev pub is_anchor : Form → Bool
is_anchor Anchor = true
is_anchor _ = false

-- an anonymous inline box of white space alone
abbrev pub is_white : Form → Bool
is_white (Text Seen) = false
is_white (Text White) = true
is_white (Text Blank) = true
is_white _ = false

-- white space that would be collapsed away where it stands alone (9.2.2.1)
abbrev pub is_blank_text : Form → Bool
is_blank_text (Text Blank) = true
is_blank_text _ = false

-- inline-level boxes (9.2.2), where they are in flow
abbrev pub is_inline_level : Form → Bool
is_inline_level Inline = true
is_inline_level (Text t) = true
is_inline_level InlineBlock = true
is_inline_level InlineWrapper = true
is_inline_level (Replaced w h inline) = inline
is_inline_level _ = false

-- Block containers (9.2.1), which hold blocks or lines. The wrapper of a table is a block box, and that of an
-- inline-table an inline-block (17.4).
abbrev pub is_block_container : Form → Bool
is_block_container Block = true
is_block_container InlineBlock = true
is_block_container (Cell colspan rowspan) = true
is_block_container Caption = true
is_block_container Wrapper = true
is_block_container InlineWrapper = true
is_block_container _ = false

abbrev pub is_in_flow : Flow → Bool
is_in_flow flow.InFlow = true
is_in_flow _ = false

abbrev pub is_absolute : Flow → Bool
is_absolute flow.Absolute = true
is_absolute _ = false

-- A block-level box in flow. For the rules a box out of flow counts as an inline box of no size.
abbrev pub is_block : Facts → Bool
is_block f = is_in_flow f.flow && not (is_inline_level f.form)
