-- A table has one list of rows, with one height and one baseline each. There is one whatever a table is given. And the rows count with
-- a cell's used sizes as its own formatting context has them, beside the content box of the same table box.
use Rattle.std.specs.Prelude.{ℕ, ◌≡◌, ◌<◌, length}
use Rattle.lay_sizes.specs.BoxSizes.{content_block}
use Rattle.lay_sizes.specs.SizeColumns.{sizes_at}
use Rattle.lay_sizes.specs.declared.sizing.BoxSizes.{BoxSizes}
use Rattle.lay_table_sizes.specs.CellSizes.{IsCellSized}
use Rattle.lay_table.specs.RowNeeds.{cell_of, style_of, table_sizes}
use Rattle.lay_table.specs.TableInputs.{TableInput, grid_of}
use Rattle.lay_table.specs.TableRows.{HasRows, TableRows, cell_size_of}

abbrev pub OneTableRows : Type 0
OneTableRows = (i : TableInput) (x y : TableRows) → HasRows i x → HasRows i y → x ≡ y

abbrev pub SomeTableRows : Type 0
SomeTableRows = (i : TableInput) → (rows : TableRows) × HasRows i rows

-- these are used sizes of the cell c of the table
abbrev pub IsSizedIn : TableInput → ℕ → BoxSizes → Type 0
IsSizedIn i c z = IsCellSized (content_block (table_sizes i)) (cell_size_of i c) (style_of i (cell_of i c).place) z

abbrev pub CellsAreSizedOnce : Type 0
CellsAreSizedOnce = (i : TableInput) (rows : TableRows) (c : ℕ) (z : BoxSizes)
    → HasRows i rows → c < length (grid_of i).cells → IsSizedIn i c z → sizes_at rows.cells c ≡ z
