-- A list of boxes has one structure as a table.
use Rattle.std.proofs.Common.{◌≡◌, ℕ, suc, Bool, true, false, List, [], ◌∷◌, map, slice_get, refl, sym, ap, ◌∙◌, subst, arith, All}
use Rattle.lay_units.specs.declared.records.Sides.{Sides}
use Rattle.lay_box_tree.specs.declared.box_tree.BoxNode.{BoxNode}
use Rattle.lay_table_grid.specs.declared.rows.TableRow.{TableRow}
use Rattle.lay_table_grid.specs.declared.placed.PlacedCell.{PlacedCell}
use Rattle.lay_table_grid.specs.TableParts.{TableParts}
use Rattle.lay_table_grid.specs.PlacedCells.{ArePlaced, column_total}
use Rattle.lay_table_grid.proofs.OneTableParts.{placing_same}
use Rattle.lay_table_grid.specs.declared.cell_area.CellArea.{CellArea}
use Rattle.lay_table_grid.specs.TableBorders.{AreCellBorders, AreTableBorders, own_borders}
use Rattle.lay_table_grid.proofs.OneBorders.{one_cell_borders_lem, one_table_borders_lem}
use Rattle.lay_table_grid.specs.declared.grid.Spacing.{Spacing}
use Rattle.lay_table_grid.specs.declared.grid.TableCell.{TableCell}
use Rattle.lay_table_grid.specs.GridLaws.{OneTableGrid}
use Rattle.lay_table_grid.specs.TableGrid.{HaveBorders, IsCollapsed, IsSeparate, IsTableGrid, TableGridValue, area_of, collapses_in, parts_of, placed_cells, placed_of, spacing_in}

abbrev cell_with : ℕ → ℕ → ℕ → ℕ → ℕ → Sides → TableCell
cell_with place row column rows columns borders =
    record { place = place; row = row; column = column; rows = rows; columns = columns; borders = borders }

abbrev area_with : ℕ → ℕ → ℕ → ℕ → CellArea
area_with row column rows columns = record { row = row; column = column; rows = rows; columns = columns }

abbrev parts_with : List BoxNode → ℕ → List TableRow → List PlacedCell → List ℕ → ℕ → TableParts
parts_with boxes table rows cells column_boxes columns =
    record { boxes = boxes; table = table; rows = rows; cells = cells; column_boxes = column_boxes; columns = columns }

-- a cell is known by where it stands and its borders
cell_same : (x y : TableCell) → placed_of x ≡ placed_of y → x.borders ≡ y.borders → x ≡ y
cell_same x y e borders =
    let place = ap (λ (p : PlacedCell). p.place) e in
    let row = ap (λ (p : PlacedCell). p.cell.area.row) e in
    let end = ap (λ (p : PlacedCell). p.cell.area.end) e in
    let columns = ap (λ (p : PlacedCell). p.cell.area.columns) e in
    let column = ap (λ (p : PlacedCell). p.cell.left) e in
    let rows : x.rows ≡ y.rows = omega arith in
    let f : cell_with x.place x.row x.column x.rows x.columns x.borders ≡ cell_with y.place y.row y.column y.rows y.columns y.borders =
    rw (place, row, column, rows, columns, borders) refl in f

area_same : (x y : TableCell) → placed_of x ≡ placed_of y → area_of x ≡ area_of y
area_same x y e =
    let row = ap (λ (p : PlacedCell). p.cell.area.row) e in
    let end = ap (λ (p : PlacedCell). p.cell.area.end) e in
    let columns = ap (λ (p : PlacedCell). p.cell.area.columns) e in
    let column = ap (λ (p : PlacedCell). p.cell.left) e in
    let rows : x.rows ≡ y.rows = omega arith in
    let f : area_with x.row x.column x.rows x.columns ≡ area_with y.row y.column y.rows y.columns = rw (row, column, rows, columns) refl in f

-- cells with the same places that have the same borders wherever they are the same otherwise
cells_with : (P : TableCell → Type 0) → ((x y : TableCell) → placed_of x ≡ placed_of y → P x → P y → x.borders ≡ y.borders)
    → (xs ys : List TableCell) → map placed_of xs ≡ map placed_of ys → All P xs → All P ys → xs ≡ ys
cells_with P one [] [] e p q = refl
cells_with P one [] (y ∷ ys) e p q = absurd (cc (e))
cells_with P one (x ∷ xs) [] e p q = absurd (cc (e))
cells_with P one (x ∷ xs) (y ∷ ys) e p q =
    let first : placed_of x ≡ placed_of y = cc in
    let rest : map placed_of xs ≡ map placed_of ys = cc in
    let here = cell_same x y first (one x y first (p 0 x (omega arith)) (q 0 y (omega arith))) in
    let others = cells_with P one xs ys rest (λ k d less. p (suc k) d (omega arith)) (λ k d less. q (suc k) d (omega arith)) in
    ap (λ (z : TableCell). z ∷ xs) here ∙ ap (λ (zs : List TableCell). y ∷ zs) others

separate_one : (boxes : List BoxNode) (x y : TableCell) → placed_of x ≡ placed_of y → IsSeparate boxes x → IsSeparate boxes y → x.borders ≡ y.borders
separate_one boxes x y e p q =
    p ∙ ap (λ (placed : PlacedCell). own_borders (slice_get boxes placed.place)) e ∙ sym q

collapsed_one : (p : TableParts) (x y : TableCell) → placed_of x ≡ placed_of y → IsCollapsed p x → IsCollapsed p y → x.borders ≡ y.borders
collapsed_one p x y e a b =
    one_cell_borders_lem p (area_of y) x.borders y.borders (subst (λ (area : CellArea). AreCellBorders p area x.borders) (area_same x y e) a) b

abbrev value_of : ℕ → List TableRow → List TableCell → List ℕ → ℕ → Spacing → Bool → Sides → TableGridValue
value_of table rows cells column_boxes columns spacing collapses borders = record {
  table = table;
  rows = rows;
  cells = cells;
  column_boxes = column_boxes;
  columns = columns;
  spacing = spacing;
  collapses = collapses;
  borders = borders;
}

-- what the boxes say but for borders
pub record SameBut (g h : TableGridValue) : Type 0 where
  pub table : g.table ≡ h.table
  pub rows : g.rows ≡ h.rows
  pub placed : placed_cells g ≡ placed_cells h
  pub column_boxes : g.column_boxes ≡ h.column_boxes
  pub columns : g.columns ≡ h.columns
  pub spacing : g.spacing ≡ h.spacing
  pub collapses : g.collapses ≡ h.collapses

same_but : (boxes : List BoxNode) (g h : TableGridValue) → IsTableGrid boxes g → IsTableGrid boxes h → SameBut g h
same_but boxes g h p q =
    let table = p.table ∙ sym q.table in
    let rows = p.rows ∙ sym q.rows in
    let column_boxes = p.column_boxes ∙ sym q.column_boxes in
    let placed = placing_same boxes h.rows (placed_cells g) (placed_cells h)
    (subst (λ (rs : List TableRow). ArePlaced boxes rs (placed_cells g)) rows p.cells) q.cells in
    record {
      table = table;
      rows = rows;
      placed = placed;
      column_boxes = column_boxes;
      columns = p.columns ∙ ap (λ (ks : List ℕ). column_total ks (placed_cells g)) column_boxes
          ∙ ap (column_total h.column_boxes) placed ∙ sym q.columns;
      spacing = p.spacing ∙ ap (λ (k : ℕ). spacing_in (slice_get boxes k)) table ∙ sym q.spacing;
      collapses = p.collapses ∙ ap (λ (k : ℕ). collapses_in (slice_get boxes k)) table ∙ sym q.collapses;
    }

parts_same : (boxes : List BoxNode) (g h : TableGridValue) → SameBut g h → parts_of boxes g ≡ parts_of boxes h
parts_same boxes g h s =
    let table = s.table in let rows = s.rows in let placed = s.placed in let column_boxes = s.column_boxes in let columns = s.columns in
    let e : parts_with boxes g.table g.rows (placed_cells g) g.column_boxes g.columns
    ≡ parts_with boxes h.table h.rows (placed_cells h) h.column_boxes h.columns = rw (table, rows, placed, column_boxes, columns) refl in e

value_same : (g h : TableGridValue) → SameBut g h → g.cells ≡ h.cells → g.borders ≡ h.borders → g ≡ h
value_same g h s cells borders =
    let table = s.table in let rows = s.rows in let column_boxes = s.column_boxes in let columns = s.columns in
    let spacing = s.spacing in let collapses = s.collapses in
    let e : value_of g.table g.rows g.cells g.column_boxes g.columns g.spacing g.collapses g.borders
    ≡ value_of h.table h.rows h.cells h.column_boxes h.columns h.spacing h.collapses h.borders =
    rw (table, rows, cells, column_boxes, columns, spacing, collapses, borders) refl in e

by_model : (boxes : List BoxNode) (g h : TableGridValue) → SameBut g h → HaveBorders boxes g → HaveBorders boxes h → (b : Bool) → h.collapses ≡ b → g ≡ h
by_model boxes g h s p q false is =
    let other = s.collapses ∙ is in
    let cells = cells_with (IsSeparate boxes) (separate_one boxes) g.cells h.cells s.placed (p.separate_cells other) (q.separate_cells is) in
    let borders = p.separate_table other ∙ ap (λ (k : ℕ). own_borders (slice_get boxes k)) s.table ∙ sym (q.separate_table is) in
    value_same g h s cells borders
by_model boxes g h s p q true is =
    let other = s.collapses ∙ is in
    let parts = parts_same boxes g h s in
    let cells = cells_with (IsCollapsed (parts_of boxes h)) (collapsed_one (parts_of boxes h)) g.cells h.cells s.placed
    (subst (λ (x : TableParts). All (IsCollapsed x) g.cells) parts (p.collapsed_cells other)) (q.collapsed_cells is) in
    let borders = one_table_borders_lem (parts_of boxes h) g.borders h.borders
    (subst (λ (x : TableParts). AreTableBorders x g.borders) parts (p.collapsed_table other)) (q.collapsed_table is) in
    value_same g h s cells borders

pub one_table_grid_lem : OneTableGrid
one_table_grid_lem boxes g h p q = by_model boxes g h (same_but boxes g h p q) p.borders q.borders h.collapses refl
