-- A table's structure out of its parts, its cells and their borders.
use Rattle.std.proofs.Common.{◌≡◌, Bool, true, List, map, slice_get, sym, ap, subst, All}
use Rattle.lay_units.specs.declared.records.Sides.{Sides}
use Rattle.lay_table_grid.specs.declared.placed.PlacedCell.{PlacedCell}
use Rattle.lay_table_grid.specs.TableParts.{TableParts, ArePartsOf}
use Rattle.lay_table_grid.specs.PlacedCells.{ArePlaced, column_total}
use Rattle.lay_table_grid.specs.TableBorders.{AreTableBorders}
use Rattle.lay_table_grid.specs.declared.grid.Spacing.{Spacing}
use Rattle.lay_table_grid.specs.declared.grid.TableCell.{TableCell}
use Rattle.lay_table_grid.specs.TableGrid.{IsCollapsed, IsTableGrid, TableGridValue, collapses_in, placed_of, spacing_in}

abbrev pub grid_of : TableParts → List TableCell → Spacing → Bool → Sides → TableGridValue
grid_of p cells spacing collapses borders = record {
  table = p.table;
  rows = p.rows;
  cells = cells;
  column_boxes = p.column_boxes;
  columns = p.columns;
  spacing = spacing;
  collapses = collapses;
  borders = borders;
}

abbrev with_cells : TableParts → List PlacedCell → TableParts
with_cells p cells = record { boxes = p.boxes; table = p.table; rows = p.rows; cells = cells; column_boxes = p.column_boxes; columns = p.columns }

parts_same : (p : TableParts) (cells : List PlacedCell) → cells ≡ p.cells → with_cells p cells ≡ p
parts_same p cells e = let f : with_cells p cells ≡ with_cells p p.cells = ap (with_cells p) e in f

pub collapsed_is_grid : (p : TableParts) (cells : List TableCell) (spacing : Spacing) (borders : Sides) → ArePartsOf p.boxes p
    → collapses_in (slice_get p.boxes p.table) ≡ true → map placed_of cells ≡ p.cells → spacing ≡ spacing_in (slice_get p.boxes p.table)
    → All (IsCollapsed p) cells → AreTableBorders p borders → IsTableGrid p.boxes (grid_of p cells spacing true borders)
collapsed_is_grid p cells spacing borders parts collapse placed between each around =
    let same = sym (parts_same p (map placed_of cells) placed) in
    record {
      table = parts.table;
      rows = parts.rows;
      cells = subst (λ (xs : List PlacedCell). ArePlaced p.boxes p.rows xs) (sym placed) parts.cells;
      column_boxes = parts.column_boxes;
      columns = subst (λ (xs : List PlacedCell). p.columns ≡ column_total p.column_boxes xs) (sym placed) parts.columns;
      collapses = sym collapse;
      spacing = between;
      borders = record {
        separate_cells = λ not. absurd (cc (not));
        separate_table = λ not. absurd (cc (not));
        collapsed_cells = λ so. subst (λ (q : TableParts). All (IsCollapsed q) cells) same each;
        collapsed_table = λ so. subst (λ (q : TableParts). AreTableBorders q borders) same around;
      };
    }
