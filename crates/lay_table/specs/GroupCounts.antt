-- What is counted of rows, so that it is known how many are drawn before a row group: columns with an entry for each box.
use Rattle.std.specs.Prelude.{ℕ, zero, suc, ◌≡◌, ◌<◌, ◌+◌, ◌==◌, ◌&&◌, Bool, List, length, slice_index, take}
use Rattle.std.specs.List.{count_by}
use Rattle.lay_box_tree.specs.declared.box_tree.BoxNode.{BoxNode}
use Rattle.lay_table_grid.specs.declared.rows.TableRow.{TableRow}
use Rattle.lay_table.specs.declared.groups.OuterGroups.{OuterGroups}
use Rattle.lay_table.specs.Groups.{is_body_row, is_body_row_before, is_header_row, is_row_in, outer_groups, rows_within}

-- for each box how many of the first n rows stand in it
pub record AreRowsWithin (rows : List TableRow) (n : ℕ) (counts : List ℕ) : Type 0 where
  pub each : (k : ℕ) → k < length counts → slice_index counts k ≡ count_by (is_row_in k) (take n rows)

-- for each box how many of the first n rows are it, and in neither of the outer groups
abbrev pub is_body_row_at : OuterGroups → ℕ → TableRow → Bool
is_body_row_at outer k row = is_body_row outer row && row.place == k

pub record AreBodyRows (outer : OuterGroups) (rows : List TableRow) (n : ℕ) (counts : List ℕ) : Type 0 where
  pub each : (k : ℕ) → k < length counts → slice_index counts k ≡ count_by (is_body_row_at outer k) (take n rows)

-- the sum of the first k of these
abbrev pub sum_before : List ℕ → (k : ℕ) → ℕ
sum_before counts zero = 0
sum_before counts (suc k) = sum_before counts k + slice_index counts k

pub record GroupCounts : Type 0 where
  pub outer : OuterGroups
  -- how many rows stand in the header group
  pub header_rows : ℕ
  -- how many stand in each box
  pub within : List ℕ
  -- how many are in neither of the outer groups and before each box
  pub body_before : List ℕ

pub record AreGroupCounts (boxes : List BoxNode) (rows : List TableRow) (g : GroupCounts) : Type 0 where
  pub outer : g.outer ≡ outer_groups boxes
  pub header_rows : g.header_rows ≡ count_by (is_header_row g.outer) rows
  pub within_count : length g.within ≡ length boxes
  pub within : (k : ℕ) → k < length boxes → slice_index g.within k ≡ rows_within rows k
  pub body_count : length g.body_before ≡ length boxes
  pub body_before : (k : ℕ) → k < length boxes → slice_index g.body_before k ≡ count_by (is_body_row_before g.outer k) rows
