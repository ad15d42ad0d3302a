-- Within which bounds the lengths of columns are, and which tables have few columns.
use Rattle.std.specs.Prelude.{ℕ, ◌^◌, ◌<◌, ℤ, pos, ◌≤ℤ◌, All, List}
use Rattle.lay_table_grid.specs.declared.grid.TableCell.{TableCell}

-- the borders and the paddings of the left and the right side: four used sizes
abbrev pub IsEdge : ℤ → Type 0
IsEdge v = (pos 0 ≤ℤ v) × (v ≤ℤ pos (2 ^ 33))

-- as many columns as no table of a document has
abbrev pub most_columns : ℕ
most_columns = 2 ^ 24

-- the boxes of the cells are some of so many
abbrev pub ArePlaced : ℕ → List TableCell → Type 0
ArePlaced count cells = All (λ (cell : TableCell). cell.place < count) cells
