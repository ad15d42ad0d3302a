-- A list of boxes has one table, with one list of each of its parts.
use Rattle.std.proofs.Common.{◌≡◌, ℕ, List, [], ◌∷◌, refl, sym, ap, ◌∙◌, subst}
use Rattle.lay_box_tree.specs.declared.box_tree.BoxNode.{BoxNode}
use Rattle.lay_grid.specs.declared.cells.Cell.{Cell}
use Rattle.lay_grid.specs.Slots.{columns_of, slots_from}
use Rattle.lay_grid.proofs.OneGrid.{cells_same}
use Rattle.lay_table_grid.specs.declared.placed.PlacedCell.{PlacedCell}
use Rattle.lay_table_grid.specs.declared.rows.TableRow.{TableRow}
use Rattle.lay_table_grid.specs.PartLaws.{GridsAreOfPlacedCells, OneTableParts}
use Rattle.lay_table_grid.specs.PlacedCells.{ArePlaced, column_total, places_of_cells, stands_of}
use Rattle.lay_table_grid.specs.TableParts.{TableParts}

abbrev made : ℕ → Cell → PlacedCell
made place cell = record { place = place; cell = cell }

one_placed : (v w : PlacedCell) → v.place ≡ w.place → v.cell ≡ w.cell → v ≡ w
one_placed v w place cell = let e : made v.place v.cell ≡ made w.place w.cell = rw (place, cell) refl in e

-- cells with the same places that stand the same are the same
placed_same : (xs ys : List PlacedCell) → places_of_cells xs ≡ places_of_cells ys → stands_of xs ≡ stands_of ys → xs ≡ ys
placed_same [] [] p s = refl
placed_same [] (y ∷ ys) p s = absurd (cc (p))
placed_same (x ∷ xs) [] p s = absurd (cc (p))
placed_same (x ∷ xs) (y ∷ ys) p s =
    let place : x.place ≡ y.place = cc in
    let cell : x.cell ≡ y.cell = cc in
    let rest_places : places_of_cells xs ≡ places_of_cells ys = cc in
    let rest_stands : stands_of xs ≡ stands_of ys = cc in
    let here = one_placed x y place cell in
    ap (λ (z : PlacedCell). z ∷ xs) here ∙ ap (λ (zs : List PlacedCell). y ∷ zs) (placed_same xs ys rest_places rest_stands)

pub placing_same : (boxes : List BoxNode) (rows : List TableRow) (xs ys : List PlacedCell) → ArePlaced boxes rows xs → ArePlaced boxes rows ys → xs ≡ ys
placing_same boxes rows xs ys p q =
    placed_same xs ys (p.places ∙ sym q.places) (cells_same [] (stands_of xs) (stands_of ys) (p.areas ∙ sym q.areas) p.stand q.stand)

pub grids_are_of_placed_cells_lem : GridsAreOfPlacedCells
grids_are_of_placed_cells_lem boxes rows cells grid placed is =
    let same = cells_same [] is.cells (stands_of cells) (is.areas ∙ sym placed.areas) is.places placed.stand in
    record { slots = is.slots ∙ ap (λ (cs : List Cell). slots_from 0 cs) same; columns = is.columns ∙ ap columns_of same }

abbrev parts_with : List BoxNode → ℕ → List TableRow → List PlacedCell → List ℕ → ℕ → TableParts
parts_with boxes table rows cells column_boxes columns =
    record { boxes = boxes; table = table; rows = rows; cells = cells; column_boxes = column_boxes; columns = columns }

pub one_table_parts_lem : OneTableParts
one_table_parts_lem boxes p q a b =
    let of_boxes = a.boxes_are ∙ sym b.boxes_are in
    let table = a.table ∙ sym b.table in
    let rows = a.rows ∙ sym b.rows in
    let column_boxes = a.column_boxes ∙ sym b.column_boxes in
    let cells = placing_same boxes q.rows p.cells q.cells
    (subst (λ (rs : List TableRow). ArePlaced boxes rs p.cells) rows a.cells) b.cells in
    let columns = a.columns ∙ ap (λ (ks : List ℕ). column_total ks p.cells) column_boxes
    ∙ ap (column_total q.column_boxes) cells ∙ sym b.columns in
    let e : parts_with p.boxes p.table p.rows p.cells p.column_boxes p.columns
    ≡ parts_with q.boxes q.table q.rows q.cells q.column_boxes q.columns = rw (of_boxes, table, rows, cells, column_boxes, columns) refl in e
