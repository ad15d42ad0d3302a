-- 17.2.1, the second stage: missing child wrappers are generated.
use Rattle.std.specs.Prelude.{Bool, ◌&&◌, not, List, [], ◌∷◌, if◌then◌else◌}
use Rattle.lay_boxgen.specs.Boxes.{Tree}
use Rattle.lay_boxgen.specs.Forms.{is_proper_table_child, is_row, is_cell, is_table, is_row_group, is_in_flow}
use Rattle.lay_boxgen.specs.Runs.{gathered, anonymous_box}
use Rattle.lay_boxgen.specs.declared.facts.Facts.{Facts}
use Rattle.lay_boxgen.specs.declared.facts.Form.TheVariants.{Row, Cell}

abbrev pub is_no_proper_table_child : Facts → Bool
is_no_proper_table_child f = not (is_in_flow f.flow && is_proper_table_child f.form)

abbrev pub is_no_row : Facts → Bool
is_no_row f = not (is_in_flow f.flow && is_row f.form)

abbrev pub is_no_cell : Facts → Bool
is_no_cell f = not (is_in_flow f.flow && is_cell f.form)

abbrev pub cell_round : Facts → List Tree → List Tree
cell_round f run = anonymous_box f (Cell 1 1) run ∷ []

-- "If a child C of a table-row box is not a table-cell, then generate an anonymous table-cell box around C
-- and all consecutive siblings of C that are not table-cell boxes."
-- `row (block text cell)` is `row (*cell (block text) cell)`, `*` for an anonymous box.
abbrev pub in_cells : Facts → List Tree → List Tree
in_cells f children = gathered is_no_cell (cell_round f) children

-- an anonymous row, in which children that are no cells get their cells at once
abbrev pub row_round : Facts → List Tree → List Tree
row_round f run = anonymous_box f Row (in_cells f run) ∷ []

-- "If a child C of a table or inline-table box is not a proper table child, then generate an anonymous
-- table-row box around C and all consecutive siblings of C that are not proper table children."
-- `table (cell block caption)` is `table (*row (cell *cell (block)) caption)`.
abbrev pub in_rows_of_table : Facts → List Tree → List Tree
in_rows_of_table f children = gathered is_no_proper_table_child (row_round f) children

-- "If a child C of a row group box is not a table-row box, then generate an anonymous table-row box around C
-- and all consecutive siblings of C that are not table-row boxes."
-- `row-group (cell row)` is `row-group (*row (cell) row)`.
abbrev pub in_rows_of_group : Facts → List Tree → List Tree
in_rows_of_group f children = gathered is_no_row (row_round f) children

-- the children of a box with the child wrappers that were missing
abbrev pub child_wrapped : Facts → List Tree → List Tree
child_wrapped f children =
    if is_table f.form then in_rows_of_table f children
    else (if is_row_group f.form then in_rows_of_group f children
    else (if is_row f.form then in_cells f children
    else children))
