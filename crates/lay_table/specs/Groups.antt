-- Where the row groups of a table stand among its rows (CSS 2.2, 17.2): before a row group come the rows that are drawn before it. Those
-- of the header group come before all others, those of the footer group behind all others, and the other ones as in the
-- document.
--
-- A table has a row group of two rows, an empty row group, a header group of one row, and a row group of one. Before these
-- come one row, three, none, and three.
use Rattle.std.specs.Prelude.{ℕ, ◌==◌, ◌&&◌, ◌||◌, nat_lt, not, Bool, false, List, Option, Some, None, if◌then◌else◌}
use Rattle.std.specs.List.{count_by}
use Rattle.lay_box_tree.specs.declared.box_tree.BoxNode.{BoxNode}
use Rattle.lay_table_grid.specs.declared.rows.TableRow.{TableRow}
use Rattle.lay_table_grid.specs.TableBoxes.{footer_place, header_place}
use Rattle.lay_table.specs.declared.groups.OuterGroups.{OuterGroups}

-- the header group and the footer group, if there are any
abbrev pub outer_groups : List BoxNode → OuterGroups
outer_groups boxes = record { header = header_place boxes; footer = footer_place boxes }

abbrev pub is_at : Option ℕ → ℕ → Bool
is_at None k = false
is_at (Some place) k = k == place

-- a row stands in the box at k
abbrev pub is_row_in : ℕ → TableRow → Bool
is_row_in k row = row.group == k

abbrev pub is_header_row : OuterGroups → TableRow → Bool
is_header_row outer row = is_at outer.header row.group

-- a row stands neither in the header group nor in the footer group
abbrev pub is_body_row : OuterGroups → TableRow → Bool
is_body_row outer row = not (is_header_row outer row || is_at outer.footer row.group)

-- and before the box at k
abbrev pub is_body_row_before : OuterGroups → ℕ → TableRow → Bool
is_body_row_before outer k row = is_body_row outer row && nat_lt row.place k

-- a row is drawn before the row group at k
abbrev pub is_drawn_before : OuterGroups → ℕ → TableRow → Bool
is_drawn_before outer k row =
    if is_at outer.header k then false
    else (if is_at outer.footer k then not (is_row_in k row) else is_header_row outer row || is_body_row_before outer k row)

-- how many rows are drawn before the row group at k, and how many stand in it
abbrev pub rows_before : List BoxNode → List TableRow → ℕ → ℕ
rows_before boxes rows k = count_by (is_drawn_before (outer_groups boxes) k) rows

abbrev pub rows_within : List TableRow → ℕ → ℕ
rows_within rows k = count_by (is_row_in k) rows
