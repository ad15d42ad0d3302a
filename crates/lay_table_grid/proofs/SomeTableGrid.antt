-- A list of boxes has a structure as a table: at each edge somebody wins, a side has a widest edge, and the rows have cells that stand.
use Rattle.std.proofs.Common.{◌≡◌, ◌⊎◌, inl, inr, ℕ, zero, suc, ◌+◌, ◌-◌, ◌<◌, ◌≤◌, ℤ, Bool, true, false, Option, Some, None, List, [], ◌∷◌, length, map, get_or, slice_get, refl, sym, ap, ◌∙◌, subst, arith, All}
use Rattle.std.proofs.lemmas.Int.{ints, by_lt_z}
use Rattle.std.proofs.lemmas.List.{length-map}
use Rattle.lay_units.specs.declared.length.Unit.{Unit}
use Rattle.lay_units.specs.declared.records.Sides.{Sides}
use Rattle.lay_box_tree.specs.declared.box_tree.BoxKind.{BoxKind}
use Rattle.lay_box_tree.specs.declared.box_tree.BoxKind.TheVariants as kind
use Rattle.lay_box_tree.specs.declared.box_tree.BoxNode.{BoxNode}
use Rattle.lay_borders.specs.declared.candidate.Cand.{Cand}
use Rattle.lay_borders.specs.Edges.{IsEdge}
use Rattle.lay_borders.specs.Halves.{edge_width, first_half, second_half}
use Rattle.lay_borders.specs.Winner.{Beats, IsWinner}
use Rattle.lay_borders.proofs.Order.{goes_on, one_of_two}
use Rattle.lay_grid.specs.declared.cells.Cell.{Cell}
use Rattle.lay_grid.specs.declared.cells.Grid.{Grid}
use Rattle.lay_grid.specs.declared.cells.RowSpec.{RowSpec}
use Rattle.lay_grid.specs.declared.cells.Span.{Span}
use Rattle.lay_grid.specs.Places.{StandAfter, areas_of}
use Rattle.lay_grid.specs.Slots.{IsGrid, SpanRows}
use Rattle.lay_grid.proofs.CellsStand.{rows_have_a_grid_lem}
use Rattle.lay_sizes.specs.SizeColumns.{no_edges}
use Rattle.lay_table_grid.specs.declared.rows.TableRow.{TableRow}
use Rattle.lay_table_grid.specs.declared.placed.PlacedCell.{PlacedCell}
use Rattle.lay_table_grid.specs.PartBounds.{CoversRows}
use Rattle.lay_table_grid.specs.Pass.SpanColumns.{SpanColumns}
use Rattle.lay_table_grid.specs.PlacedCells.{ArePlaced, column_total, places_of_cells, stands_of}
use Rattle.lay_table_grid.specs.TableBoxes.{cells_of_row, cells_of_rows, column_boxes_of, kind_at, row_spec, row_specs, rows_of, span_of, table_place}
use Rattle.lay_table_grid.specs.TableParts.{ArePartsOf, TableParts}
use Rattle.lay_table_grid.proofs.PlacedCells.{all_cover, as_many_cells}
use Rattle.lay_table_grid.specs.declared.cell_area.CellArea.{CellArea}
use Rattle.lay_table_grid.specs.declared.grid.TableCell.{TableCell}
use Rattle.lay_table_grid.specs.GridLaws.{SomeTableGrid}
use Rattle.lay_table_grid.specs.MeetingBorders.{meeting_above, meeting_left}
use Rattle.lay_table_grid.specs.TableBorders.{AreCellBorders, AreOuterHalves, AreTableBorders, IsEdgeWidth, IsHalf, IsWidest, own_borders}
use Rattle.lay_table_grid.specs.TableGrid.{IsCollapsed, IsSeparate, IsTableGrid, TableGridValue, area_of, collapses_in, placed_of, spacing_in}
use Rattle.lay_table_grid.proofs.Assembled.{collapsed_is_grid, grid_of}
use Rattle.lay_table_grid.proofs.WidestEdges.{widest_more, widest_one}

-- of some borders one wins
some_winner : (b : Cand) (bs : List Cand) → (w : Cand) × IsWinner (b ∷ bs) w
some_winner b [] = (b, record { one_of = (0, refl); beats = alone })
  where
    alone : (k : ℕ) (other : Cand) → slice_get (b ∷ []) k ≡ Some other → (other ≡ b) ⊎ Beats b other
    alone zero other at = inl cc
    alone (suc k) other at = absurd (cc (at))
some_winner b (c ∷ cs) = over_all (some_winner c cs)
  where
    stays : (w : Cand) → IsWinner (c ∷ cs) w → (b ≡ w) ⊎ Beats w b → IsWinner (b ∷ c ∷ cs) w
    stays w is first = record { one_of = (suc is.one_of.0, is.one_of.1); beats = each }
      where
        each : (k : ℕ) (other : Cand) → slice_get (b ∷ c ∷ cs) k ≡ Some other → (other ≡ w) ⊎ Beats w other
        each zero other at = let e : b ≡ other = cc in subst (λ (x : Cand). (x ≡ w) ⊎ Beats w x) e first
        each (suc k) other at = is.beats k other at

    wins : (w : Cand) → IsWinner (c ∷ cs) w → Beats b w → IsWinner (b ∷ c ∷ cs) b
    wins w is over = record { one_of = (0, refl); beats = each }
      where
        on : (other : Cand) → (other ≡ w) ⊎ Beats w other → (other ≡ b) ⊎ Beats b other
        on other (inl e) = inr (subst (Beats b) (sym e) over)
        on other (inr p) = inr (goes_on b w other over p)

        each : (k : ℕ) (other : Cand) → slice_get (b ∷ c ∷ cs) k ≡ Some other → (other ≡ b) ⊎ Beats b other
        each zero other at = inl cc
        each (suc k) other at = on other (is.beats k other at)

    over_all : (w : Cand) × IsWinner (c ∷ cs) w → (w : Cand) × IsWinner (b ∷ c ∷ cs) w
    over_all rest = from (one_of_two b rest.0)
      where
        from : (b ≡ rest.0) ⊎ (Beats b rest.0 ⊎ Beats rest.0 b) → (w : Cand) × IsWinner (b ∷ c ∷ cs) w
        from (inl e) = (rest.0, stays rest.0 rest.1 (inl e))
        from (inr (inl over)) = (b, wins rest.0 rest.1 over)
        from (inr (inr under)) = (rest.0, stays rest.0 rest.1 (inr under))

some_edge : (borders : List Cand) → (edge : Option Cand) × IsEdge borders edge
some_edge [] = (None, refl)
some_edge (b ∷ bs) = let w = some_winner b bs in (Some w.0, w.1)

some_width : (borders : List Cand) → (width : ℤ) × IsEdgeWidth borders width
some_width borders = let e = some_edge borders in (edge_width e.0, (e.0, e.1, refl))

abbrev unit_of : ℤ → Unit
unit_of v = record { 0 = v }

-- of some edges one is the widest
some_widest : (meeting : ℕ → List Cand) (n : ℕ) → (width : ℤ) × IsWidest meeting (suc n) width
some_widest meeting zero = let w = some_width (meeting 0) in (w.0, widest_one meeting w.0 w.1)
some_widest meeting (suc n) = one_more (some_widest meeting n) (some_width (meeting (suc n)))
  where
    last : (v : ℤ) → IsWidest meeting (suc n + 1) v → IsWidest meeting (suc (suc n)) v
    last v is = subst (λ (m : ℕ). IsWidest meeting m v) (omega arith) is

    one_more : (width : ℤ) × IsWidest meeting (suc n) width → (width : ℤ) × IsEdgeWidth (meeting (suc n)) width
        → (width : ℤ) × IsWidest meeting (suc (suc n)) width
    one_more old new = by_lt_z old.0 new.0
        (λ less. (new.0, last new.0 (widest_more meeting (suc n) (unit_of old.0) (unit_of new.0) (unit_of new.0) old.1 new.1 (inr refl) (omega (arith, ints, less)) (omega (arith, ints)))))
        (λ not. (old.0, last old.0 (widest_more meeting (suc n) (unit_of old.0) (unit_of old.0) (unit_of new.0) old.1 new.1 (inl refl) (omega (arith, ints)) (omega (arith, ints, not)))))

some_half : (half : ℤ → ℤ) (meeting : ℕ → List Cand) (count : ℕ) → 0 < count → (border : ℤ) × IsHalf half meeting count border
some_half half meeting zero some = absurd (omega (arith, some))
some_half half meeting (suc n) some = let w = some_widest meeting n in (half w.0, (w.0, w.1, refl))

abbrev sides_of : ℤ → ℤ → ℤ → ℤ → Sides
sides_of top right bottom left = record { top = record { 0 = top }; right = record { 0 = right }; bottom = record { 0 = bottom }; left = record { 0 = left } }

some_cell_borders : (p : TableParts) (a : CellArea) → 0 < a.rows → 0 < a.columns → (sides : Sides) × AreCellBorders p a sides
some_cell_borders p a rows columns =
    let t = some_half second_half (λ k. meeting_above p a.row (a.column + k)) a.columns columns in
    let b = some_half first_half (λ k. meeting_above p (a.row + a.rows) (a.column + k)) a.columns columns in
    let l = some_half second_half (λ k. meeting_left p (a.row + k) a.column) a.rows rows in
    let r = some_half first_half (λ k. meeting_left p (a.row + k) (a.column + a.columns)) a.rows rows in
    (sides_of t.0 r.0 b.0 l.0, record { top = t.1; bottom = b.1; left = l.1; right = r.1 })

some_outer_halves : (p : TableParts) → 0 < p.columns → (sides : Sides) × AreOuterHalves p sides
some_outer_halves p columns =
    let t = some_half first_half (λ k. meeting_above p 0 k) p.columns columns in
    let b = some_half second_half (λ k. meeting_above p (length p.rows) k) p.columns columns in
    let l = some_half first_half (λ k. meeting_left p k 0) 1 (omega arith) in
    let r = some_half second_half (λ k. meeting_left p k p.columns) 1 (omega arith) in
    (sides_of t.0 r.0 b.0 l.0, record { top = t.1; bottom = b.1; left = l.1; right = r.1 })

some_or_none : (n : ℕ) → (0 < n) ⊎ (n ≡ 0)
some_or_none zero = inr refl
some_or_none (suc n) = inl (omega arith)

some_table_borders : (p : TableParts) → (sides : Sides) × AreTableBorders p sides
some_table_borders p = from (some_or_none (length p.rows)) (some_or_none p.columns)
  where
    empty : (length p.rows ≡ 0) ⊎ (p.columns ≡ 0) → (sides : Sides) × AreTableBorders p sides
    empty not = (no_edges, record { some = λ rows columns. never not rows columns; none = λ so. refl })
      where
        never : (length p.rows ≡ 0) ⊎ (p.columns ≡ 0) → 0 < length p.rows → 0 < p.columns → AreOuterHalves p no_edges
        never (inl e) rows columns = absurd (omega (arith, e, rows))
        never (inr e) rows columns = absurd (omega (arith, e, columns))

    from : (0 < length p.rows) ⊎ (length p.rows ≡ 0) → (0 < p.columns) ⊎ (p.columns ≡ 0) → (sides : Sides) × AreTableBorders p sides
    from (inl rows) (inl columns) = let o = some_outer_halves p columns in (o.0, record { some = λ r c. o.1; none = λ so. absurd (not so) })
      where
        not : (length p.rows ≡ 0) ⊎ (p.columns ≡ 0) → ⊥
        not (inl e) = omega (arith, e, rows)
        not (inr e) = omega (arith, e, columns)
    from (inr rows) columns = empty (inl rows)
    from (inl rows) (inr columns) = empty (inr columns)

-- each cell spans a row and a column at least
span_rows : (k : BoxKind) → 1 ≤ (span_of k).rows
span_rows (kind.Cell colspan rowspan) = omega arith
span_rows _ = omega arith

span_columns : (k : BoxKind) → 1 ≤ (span_of k).columns
span_columns (kind.Cell colspan rowspan) = omega arith
span_columns _ = omega arith

mapped : {X Y : Type 0} (P : Y → Type 0) (f : X → Y) (xs : List X) → ((x : X) → P (f x)) → All P (map f xs)
mapped P f [] each = λ k d less. absurd (omega (arith, less))
mapped {Y = Y} P f (x ∷ xs) each = at (mapped P f xs each)
  where
    at : All P (map f xs) → (k : ℕ) (d : Y) → k < length (map f (x ∷ xs)) → P (get_or (map f (x ∷ xs)) k d)
    at rest zero d less = each x
    at rest (suc k) d less = rest k d (omega (arith, less))

rows_span_rows : (boxes : List BoxNode) (rows : List TableRow) → SpanRows (row_specs boxes rows)
rows_span_rows boxes rows = mapped (λ (row : RowSpec). All (λ (span : Span). 1 ≤ span.rows) row.cells) (row_spec boxes) rows
    (λ row. mapped (λ (span : Span). 1 ≤ span.rows) (λ k. span_of (kind_at boxes k)) (cells_of_row boxes row.place) (λ k. span_rows (kind_at boxes k)))

rows_span_columns : (boxes : List BoxNode) (rows : List TableRow) → SpanColumns (row_specs boxes rows)
rows_span_columns boxes rows = mapped (λ (row : RowSpec). All (λ (span : Span). 1 ≤ span.columns) row.cells) (row_spec boxes) rows
    (λ row. mapped (λ (span : Span). 1 ≤ span.columns) (λ k. span_of (kind_at boxes k)) (cells_of_row boxes row.place) (λ k. span_columns (kind_at boxes k)))

-- cells that stand, each with its place
abbrev placed_with : List ℕ → List Cell → List PlacedCell
placed_with [] cells = []
placed_with (k ∷ places) [] = []
placed_with (k ∷ places) (cell ∷ cells) = record { place = k; cell = cell } ∷ placed_with places cells

keeps_places : (places : List ℕ) (cells : List Cell) → length places ≡ length cells → places_of_cells (placed_with places cells) ≡ places
keeps_places [] cells e = refl
keeps_places (k ∷ places) [] e = absurd (omega (arith, e))
keeps_places (k ∷ places) (cell ∷ cells) e = ap (λ (ks : List ℕ). k ∷ ks) (keeps_places places cells (omega (arith, e)))

keeps_cells : (places : List ℕ) (cells : List Cell) → length places ≡ length cells → stands_of (placed_with places cells) ≡ cells
keeps_cells [] [] e = refl
keeps_cells [] (cell ∷ cells) e = absurd (omega (arith, e))
keeps_cells (k ∷ places) [] e = absurd (omega (arith, e))
keeps_cells (k ∷ places) (cell ∷ cells) e = ap (λ (cs : List Cell). cell ∷ cs) (keeps_cells places cells (omega (arith, e)))

-- a table has parts, and each cell covers a slot
some_parts : (boxes : List BoxNode) → (p : TableParts) × (p.boxes ≡ boxes) × ArePartsOf boxes p × All (CoversRows (length p.rows)) p.cells
some_parts boxes = (
  record { boxes = boxes; table = table_place boxes; rows = rows; cells = cells; column_boxes = columns; columns = column_total columns cells },
  refl,
  record {
    boxes_are = refl;
    table = refl;
    rows = refl;
    cells = record { places = keeps_places places grid.1.cells many; areas = ap areas_of stand ∙ grid.1.areas; stand = subst (StandAfter []) (sym stand) grid.1.places };
    column_boxes = refl;
    columns = refl;
  },
  all_cover (length rows) (row_specs boxes rows) grid.1.cells cells (rows_span_rows boxes rows) (rows_span_columns boxes rows)
      (length-map rows (row_spec boxes)) grid.1.areas stand,
)
  where
    rows : List TableRow
    rows = rows_of boxes

    columns : List ℕ
    columns = column_boxes_of boxes

    grid : (grid : Grid) × IsGrid (row_specs boxes rows) grid
    grid = rows_have_a_grid_lem (row_specs boxes rows)

    places : List ℕ
    places = cells_of_rows boxes rows

    many : length places ≡ length grid.1.cells
    many = as_many_cells boxes rows places (row_specs boxes rows) grid.1.cells refl refl grid.1.areas

    cells : List PlacedCell
    cells = placed_with places grid.1.cells

    stand : stands_of cells ≡ grid.1.cells
    stand = keeps_cells places grid.1.cells many

-- a cell where it stands, with these borders
abbrev cell_of : PlacedCell → Sides → TableCell
cell_of placed borders = record {
  place = placed.place;
  row = placed.cell.area.row;
  column = placed.cell.left;
  rows = placed.cell.area.end - placed.cell.area.row;
  columns = placed.cell.area.columns;
  borders = borders;
}

abbrev placed_with_end : PlacedCell → ℕ → PlacedCell
placed_with_end placed end = record {
  place = placed.place;
  cell = record { area = record { row = placed.cell.area.row; end = end; columns = placed.cell.area.columns }; left = placed.cell.left };
}

stands_there : (placed : PlacedCell) (borders : Sides) → placed.cell.area.row < placed.cell.area.end → placed_of (cell_of placed borders) ≡ placed
stands_there placed borders some =
    let end : placed.cell.area.row + (placed.cell.area.end - placed.cell.area.row) ≡ placed.cell.area.end = omega (arith, some) in
    let e : placed_with_end placed (placed.cell.area.row + (placed.cell.area.end - placed.cell.area.row)) ≡ placed_with_end placed placed.cell.area.end =
    ap (placed_with_end placed) end in e

-- cells with borders of which this holds, where each cell has such borders
some_cells : (P : TableCell → Type 0) (n : ℕ) (placed : List PlacedCell) → All (CoversRows n) placed
    → ((cell : PlacedCell) → CoversRows n cell → (borders : Sides) × P (cell_of cell borders))
    → (cells : List TableCell) × (map placed_of cells ≡ placed) × All P cells
some_cells P n [] cover each = ([], refl, λ k d less. absurd (omega (arith, less)))
some_cells P n (x ∷ placed) cover each =
    with_first (some_cells P n placed (λ k d less. cover (suc k) d (omega (arith, less))) each)
  where
    here : CoversRows n x
    here = cover 0 x (omega arith)

    borders : (borders : Sides) × P (cell_of x borders)
    borders = each x here

    first : TableCell
    first = cell_of x borders.0

    with_first : (cells : List TableCell) × (map placed_of cells ≡ placed) × All P cells
        → (cells : List TableCell) × (map placed_of cells ≡ x ∷ placed) × All P cells
    with_first rest = (first ∷ rest.0, both_same (stands_there x borders.0 here.some_rows) rest.1, all)
      where
        both_same : placed_of first ≡ x → map placed_of rest.0 ≡ placed → map placed_of (first ∷ rest.0) ≡ x ∷ placed
        both_same a b = cc

        all : (k : ℕ) (d : TableCell) → k < length (first ∷ rest.0) → P (get_or (first ∷ rest.0) k d)
        all zero d less = borders.1
        all (suc k) d less = rest.2 k d (omega (arith, less))

collapsed_exists : (p : TableParts) → ArePartsOf p.boxes p → All (CoversRows (length p.rows)) p.cells → collapses_in (slice_get p.boxes p.table) ≡ true
    → (grid : TableGridValue) × IsTableGrid p.boxes grid
collapsed_exists p parts cover collapse =
    let cells = some_cells (IsCollapsed p) (length p.rows) p.cells cover
    (λ cell at. some_cell_borders p (area_of (cell_of cell no_edges)) (let r = at.some_rows in omega (arith, r)) (let c = at.some_columns in omega (arith, c))) in
    let borders = some_table_borders p in
    let spacing = spacing_in (slice_get p.boxes p.table) in
    (grid_of p cells.0 spacing true borders.0, collapsed_is_grid p cells.0 spacing borders.0 parts collapse cells.1 refl cells.2 borders.1)

separate_exists : (p : TableParts) → ArePartsOf p.boxes p → All (CoversRows (length p.rows)) p.cells → collapses_in (slice_get p.boxes p.table) ≡ false
    → (grid : TableGridValue) × IsTableGrid p.boxes grid
separate_exists p parts cover separate =
    let cells = some_cells (IsSeparate p.boxes) (length p.rows) p.cells cover (λ cell at. (own_borders (slice_get p.boxes cell.place), refl)) in
    let spacing = spacing_in (slice_get p.boxes p.table) in
    let borders = own_borders (slice_get p.boxes p.table) in (
      grid_of p cells.0 spacing false borders,
      record {
        table = parts.table;
        rows = parts.rows;
        cells = subst (λ (xs : List PlacedCell). ArePlaced p.boxes p.rows xs) (sym cells.1) parts.cells;
        column_boxes = parts.column_boxes;
        columns = subst (λ (xs : List PlacedCell). p.columns ≡ column_total p.column_boxes xs) (sym cells.1) parts.columns;
        collapses = sym separate;
        spacing = refl;
        borders = record {
          separate_cells = λ so. cells.2;
          separate_table = λ so. refl;
          collapsed_cells = λ so. absurd (cc (so));
          collapsed_table = λ so. absurd (cc (so));
        };
      },
    )

pub some_table_grid_lem : SomeTableGrid
some_table_grid_lem boxes = let some = some_parts boxes in from some.0 some.1 some.2 some.3
  where
    by : (p : TableParts) → ArePartsOf p.boxes p → All (CoversRows (length p.rows)) p.cells → (collapses : Bool)
        → collapses_in (slice_get p.boxes p.table) ≡ collapses → (grid : TableGridValue) × IsTableGrid p.boxes grid
    by p parts cover true e = collapsed_exists p parts cover e
    by p parts cover false e = separate_exists p parts cover e

    from : (p : TableParts) → p.boxes ≡ boxes → ArePartsOf boxes p → All (CoversRows (length p.rows)) p.cells
        → (grid : TableGridValue) × IsTableGrid boxes grid
    from p same parts cover =
        let own = subst (λ (bs : List BoxNode). ArePartsOf bs p) (sym same) parts in
        let made = by p own cover (collapses_in (slice_get p.boxes p.table)) refl in
        (made.0, subst (λ (bs : List BoxNode). IsTableGrid bs made.0) same made.1)
