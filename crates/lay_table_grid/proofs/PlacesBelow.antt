-- The places in the structure of a table are places of its boxes.
use Rattle.std.proofs.Common.{ℕ, zero, suc, ◌+◌, ◌<◌, ◌≤◌, Bool, true, false, List, [], ◌∷◌, ◌++◌, length, map, replicate, slice_index, if◌then◌else◌, sym, subst, arith, All}
use Rattle.std.specs.Prelude.{⊤}
use Rattle.lay_box_tree.specs.declared.box_tree.BoxNode.{BoxNode}
use Rattle.lay_table_grid.specs.declared.rows.TableRow.{TableRow}
use Rattle.lay_table_grid.specs.PlacedCells.{places_of_cells}
use Rattle.lay_table_grid.specs.TableBoxes.{cells_of_row, cells_of_rows, column_boxes_of, column_count, columns_from, has_columns, is_cell_of, is_ranked, is_table_kind, places_from, places_of, ranked_places, row_at, drawn_row_places}
use Rattle.lay_table_grid.specs.declared.grid.TableCell.{TableCell}
use Rattle.lay_table_grid.specs.GridLaws.{GridsAreOfBoxes}
use Rattle.lay_table_grid.specs.TableGrid.{placed_of}

abbrev Below : ℕ → List ℕ → Type 0
Below n [] = ⊤
Below n (k ∷ ks) = (k < n) × Below n ks

both : (n : ℕ) (xs ys : List ℕ) → Below n xs → Below n ys → Below n (xs ++ ys)
both n [] ys p q = q
both n (x ∷ xs) ys p q = (p.0, both n xs ys p.1 q)

at : (n : ℕ) (xs : List ℕ) → Below n xs → All (λ (k : ℕ). k < n) xs
at n [] below k d less = absurd (omega arith)
at n (x ∷ xs) below zero d less = below.0
at n (x ∷ xs) below (suc k) d less = at n xs below.1 k d (omega arith)

chosen : (n k : ℕ) (b : Bool) (rest : List ℕ) → k < n → Below n rest → Below n (if b then k ∷ rest else rest)
chosen n k true rest less below = (less, below)
chosen n k false rest less below = below

places : (test : BoxNode → Bool) (n k : ℕ) (boxes : List BoxNode) → k + length boxes ≤ n → Below n (places_from test k boxes)
places test n k [] fits = tt
places test n k (box ∷ boxes) fits =
    chosen n k (test box) (places_from test (k + 1) boxes) (omega arith) (places test n (k + 1) boxes (omega arith))

of_boxes : (test : BoxNode → Bool) (boxes : List BoxNode) → Below (length boxes) (places_of test boxes)
of_boxes test boxes = places test (length boxes) 0 boxes (omega arith)

first_below : (n : ℕ) (xs : List ℕ) → 0 < n → Below n xs → slice_index xs 0 < n
first_below n [] some below = some
first_below n (x ∷ xs) some below = below.0

rows_below : (boxes : List BoxNode) → Below (length boxes) (drawn_row_places boxes)
rows_below boxes =
    both (length boxes) (ranked_places boxes 0) (ranked_places boxes 1 ++ ranked_places boxes 2) (of_boxes (is_ranked boxes 0) boxes)
    (both (length boxes) (ranked_places boxes 1) (ranked_places boxes 2) (of_boxes (is_ranked boxes 1) boxes) (of_boxes (is_ranked boxes 2) boxes))

rows_at : (n : ℕ) (boxes : List BoxNode) (ks : List ℕ) → Below n ks → All (λ (row : TableRow). row.place < n) (map (row_at boxes) ks)
rows_at n boxes [] below k d less = absurd (omega arith)
rows_at n boxes (x ∷ ks) below zero d less = below.0
rows_at n boxes (x ∷ ks) below (suc k) d less = rows_at n boxes ks below.1 k d (omega arith)

cells_below : (boxes : List BoxNode) (rows : List TableRow) → Below (length boxes) (cells_of_rows boxes rows)
cells_below boxes [] = tt
cells_below boxes (row ∷ rows) =
    both (length boxes) (cells_of_row boxes row.place) (cells_of_rows boxes rows) (of_boxes (is_cell_of row.place) boxes) (cells_below boxes rows)

cells_at : (n : ℕ) (cells : List TableCell) → Below n (places_of_cells (map placed_of cells)) → All (λ (cell : TableCell). cell.place < n) cells
cells_at n [] below k d less = absurd (omega arith)
cells_at n (cell ∷ cells) below zero d less = below.0
cells_at n (cell ∷ cells) below (suc k) d less = cells_at n cells below.1 k d (omega arith)

copies : (n k m : ℕ) → k < n → Below n (replicate m k)
copies n k zero less = tt
copies n k (suc m) less = (less, copies n k m less)

columns : (boxes : List BoxNode) (n k : ℕ) (rest : List BoxNode) → k + length rest ≤ n → Below n (columns_from boxes k rest)
columns boxes n k [] fits = tt
columns boxes n k (box ∷ rest) fits =
    both n (replicate (column_count (has_columns boxes k) box.kind) k) (columns_from boxes (k + 1) rest)
    (copies n k (column_count (has_columns boxes k) box.kind) (omega arith)) (columns boxes n (k + 1) rest (omega arith))

pub grids_are_of_boxes_lem : GridsAreOfBoxes
grids_are_of_boxes_lem boxes grid some is = record {
  table = subst (λ (k : ℕ). k < length boxes) (sym is.table)
      (first_below (length boxes) (places_of (λ b. is_table_kind b.kind) boxes) some (of_boxes (λ b. is_table_kind b.kind) boxes));
  rows = subst (λ (rows : List TableRow). All (λ (row : TableRow). row.place < length boxes) rows) (sym is.rows)
      (rows_at (length boxes) boxes (drawn_row_places boxes) (rows_below boxes));
  cells = cells_at (length boxes) grid.cells (subst (Below (length boxes)) (sym is.cells.places) (cells_below boxes grid.rows));
  column_boxes = subst (λ (ks : List ℕ). All (λ (k : ℕ). k < length boxes) ks) (sym is.column_boxes)
      (at (length boxes) (column_boxes_of boxes) (columns boxes (length boxes) 0 boxes (omega arith)));
}
