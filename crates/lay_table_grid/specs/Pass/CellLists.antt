-- For each box the cells in it, of which only those of rows are asked.
use Rattle.std.specs.Prelude.{ℕ, ◌≡◌, ◌≢◌, ◌<◌, List, [], ◌∷◌, ◌++◌, length, drop, slice_index_or}
use Rattle.lay_box_tree.specs.declared.box_tree.BoxNode.{BoxNode}
use Rattle.lay_box_tree.specs.Containers.{box_parent}
use Rattle.lay_table_grid.specs.declared.rows.TableRow.{TableRow}
use Rattle.lay_table_grid.specs.TableBoxes.{cells_of_row, is_cell_of, places_from}

abbrev pub cells_listed_at : List (List ℕ) → ℕ → List ℕ
cells_listed_at lists k = slice_index_or lists k []

-- these are the cells in each box but for those that stand at k or behind
pub record CellListsTo (boxes : List BoxNode) (k : ℕ) (lists : List (List ℕ)) : Type 0 where
  pub as_many : length lists ≡ length boxes
  pub each : (p : ℕ) → p < length boxes
      → cells_listed_at lists p ++ places_from (is_cell_of p) k (drop k boxes) ≡ cells_of_row boxes p

pub record AreCellLists (boxes : List BoxNode) (lists : List (List ℕ)) : Type 0 where
  pub as_many : length lists ≡ length boxes
  pub each : (p : ℕ) → p < length boxes → cells_listed_at lists p ≡ cells_of_row boxes p

-- a place comes last in one of the lists, if there is that
pub record Adds (at place : ℕ) (before after : List (List ℕ)) : Type 0 where
  pub here : at < length before → cells_listed_at after at ≡ cells_listed_at before at ++ place ∷ []
  pub others : (k : ℕ) → k ≢ at → cells_listed_at after k ≡ cells_listed_at before k
  pub as_many : length after ≡ length before

-- the row is one of the boxes and knows its parent
pub record IsRowOf (boxes : List BoxNode) (row : TableRow) : Type 0 where
  pub within : row.place < length boxes
  pub group : row.group ≡ box_parent boxes row.place
