-- 17.2.1, the third stage: missing parents are generated.
use Rattle.std.specs.Prelude.{Bool, ◌&&◌, ◌||◌, not, List, [], ◌∷◌, if◌then◌else◌}
use Rattle.lay_boxgen.specs.Boxes.{Tree}
use Rattle.lay_boxgen.specs.Forms.{is_row, is_cell, is_table, is_row_group, is_column}
use Rattle.lay_boxgen.specs.Forms.{is_column_group, is_caption, is_inline, is_in_flow}
use Rattle.lay_boxgen.specs.Runs.{gathered, anonymous_box}
use Rattle.lay_boxgen.specs.declared.facts.Facts.{Facts}
use Rattle.lay_boxgen.specs.declared.facts.Form.{Form}
use Rattle.lay_boxgen.specs.declared.facts.Form.TheVariants.{Row, Wrapper, InlineWrapper}

abbrev pub is_cell_in_flow : Facts → Bool
is_cell_in_flow f = is_in_flow f.flow && is_cell f.form

abbrev pub row_of_cells : Facts → List Tree → List Tree
row_of_cells f run = anonymous_box f Row run ∷ []

-- "For each table-cell box C in a sequence of consecutive internal table and table-caption siblings, if C's
-- parent is not a table-row then generate an anonymous table-row box around C and all consecutive siblings of
-- C that are table-cell boxes." `block (cell cell row)` is `block (*row (cell cell) row)`.
abbrev pub cells_in_rows : Facts → List Tree → List Tree
cells_in_rows f children = if is_row f.form then children else gathered is_cell_in_flow (row_of_cells f) children

-- "A table-row is misparented if its parent is neither a row group box nor a table or inline-table box."
abbrev pub is_misparented_row : Form → Form → Bool
is_misparented_row parent f = is_row f && not (is_row_group parent || is_table parent)

-- "A table-column box is misparented if its parent is neither a table-column-group box nor a table or
-- inline-table box."
abbrev pub is_misparented_column : Form → Form → Bool
is_misparented_column parent f = is_column f && not (is_column_group parent || is_table parent)

-- "A row group box, table-column-group box, or table-caption box is misparented if its parent is neither a
-- table box nor an inline-table box."
abbrev pub is_misparented_group_or_caption : Form → Form → Bool
is_misparented_group_or_caption parent f = (is_row_group f || is_column_group f || is_caption f) && not (is_table parent)

abbrev pub is_misparented : Form → Facts → Bool
is_misparented parent f =
    is_in_flow f.flow
    && (is_misparented_row parent f.form || is_misparented_column parent f.form || is_misparented_group_or_caption parent f.form)

-- "If C's parent is an inline box, then T must be an inline-table box; otherwise it must be a table box."
abbrev pub table_round : Facts → List Tree → List Tree
table_round f run = anonymous_box f (if is_inline f.form then InlineWrapper else Wrapper) run ∷ []

-- "For each proper table child C in a sequence of consecutive proper table children, if C is misparented then
-- generate an anonymous table or inline-table box T around C and all consecutive siblings of C that are proper
-- table children." Where one of them is misparented, all are: after the second stage only boxes that aren't
-- table boxes, and cells and captions, have any.
-- `block (row caption block row)` is `block (*table (row caption) block *table (row))`.
abbrev pub parts_in_tables : Facts → List Tree → List Tree
parts_in_tables f children = gathered (is_misparented f.form) (table_round f) children

-- the children of a box with the parents that were missing
abbrev pub parented : Facts → List Tree → List Tree
parented f children = parts_in_tables f (cells_in_rows f children)
