-- The cells of rows, where they stand: as many as there are boxes of them, and inside the rows.
use Rattle.std.proofs.Common.{◌≡◌, ℕ, zero, suc, ◌+◌, ◌<◌, ◌≤◌, cond, nat_eq, List, [], ◌∷◌, ◌++◌, length, get_or, refl, sym, ap, ◌∙◌, subst, arith, All, eq-eqb}
use Rattle.std.specs.Prelude.{⊤}
use Rattle.std.proofs.lemmas.List.{length-append, length-map}
use Rattle.std.proofs.lemmas.List.Elements.{All-tail}
use Rattle.lay_box_tree.specs.declared.box_tree.BoxNode.{BoxNode}
use Rattle.lay_grid.specs.declared.cells.Area.{Area}
use Rattle.lay_grid.specs.declared.cells.Cell.{Cell}
use Rattle.lay_grid.specs.declared.cells.RowSpec.{RowSpec}
use Rattle.lay_grid.specs.declared.cells.Span.{Span}
use Rattle.lay_grid.specs.Areas.{areas_from, areas_in_row, rows_left, rows_of_group}
use Rattle.lay_grid.specs.Places.{areas_of}
use Rattle.lay_grid.specs.Slots.{SpanRows}
use Rattle.lay_grid.proofs.SlotSteps.{as_many, cells_end}
use Rattle.lay_table_grid.specs.declared.rows.TableRow.{TableRow}
use Rattle.lay_table_grid.specs.declared.placed.PlacedCell.{PlacedCell}
use Rattle.lay_table_grid.specs.PartBounds.{CoversRows}
use Rattle.lay_table_grid.specs.Pass.SpanColumns.{SpanColumns}
use Rattle.lay_table_grid.specs.PlacedCells.{stands_of}
use Rattle.lay_table_grid.specs.TableBoxes.{cells_of_row, cells_of_rows, kind_at, row_spec, row_specs, span_of}

in_row : (r left : ℕ) (spans : List Span) → length (areas_in_row r left spans) ≡ length spans
in_row r left [] = refl
in_row r left (span ∷ spans) = ap suc (in_row r left spans)

in_rows : (boxes : List BoxNode) (r : ℕ) (rows : List TableRow) → length (areas_from r (row_specs boxes rows)) ≡ length (cells_of_rows boxes rows)
in_rows boxes r [] = refl
in_rows boxes r (row ∷ rows) =
    let left = rows_left (row_specs boxes (row ∷ rows)) in
    let here = in_row r left (row_spec boxes row).cells ∙ length-map (cells_of_row boxes row.place) (λ k. span_of (kind_at boxes k)) in
    let rest = in_rows boxes (r + 1) rows in
    let a = length-append (areas_in_row r left (row_spec boxes row).cells) (areas_from (r + 1) (row_specs boxes rows)) in
    let b = length-append (cells_of_row boxes row.place) (cells_of_rows boxes rows) in
    omega (arith, here, rest, a, b)

-- there are as many places as cells that stand
pub as_many_cells : (boxes : List BoxNode) (rows : List TableRow) (places : List ℕ) (specs : List RowSpec) (cells : List Cell) → places ≡ cells_of_rows boxes rows
    → specs ≡ row_specs boxes rows → areas_of cells ≡ areas_from 0 specs → length places ≡ length cells
as_many_cells boxes rows places specs cells p s a =
    ap length p ∙ sym (in_rows boxes 0 rows) ∙ ap (λ (xs : List RowSpec). length (areas_from 0 xs)) (sym s) ∙ sym (ap length a) ∙ as_many cells

-- an area of some rows and some columns
pub record IsSome (area : Area) : Type 0 where
  pub rows : area.row < area.end
  pub columns : 1 ≤ area.columns

abbrev AreSome : List Area → Type 0
AreSome [] = ⊤
AreSome (area ∷ areas) = IsSome area × AreSome areas

both_some : (xs ys : List Area) → AreSome xs → AreSome ys → AreSome (xs ++ ys)
both_some [] ys p q = q
both_some (x ∷ xs) ys p q = (p.0, both_some xs ys p.1 q)

some_in_row : (r left : ℕ) (spans : List Span) → 1 ≤ left → All (λ (span : Span). 1 ≤ span.rows) spans → All (λ (span : Span). 1 ≤ span.columns) spans
    → AreSome (areas_in_row r left spans)
some_in_row r left [] some rows columns = tt
some_in_row r left (span ∷ spans) some rows columns =
    let a = rows 0 span (omega arith) in
    let b = columns 0 span (omega arith) in (
      record { rows = omega arith; columns = b },
      some_in_row r left spans some (All-tail (λ (span : Span). 1 ≤ span.rows) span spans rows) (All-tail (λ (span : Span). 1 ≤ span.columns) span spans columns),
    )

own_group : (group : ℕ) (rest : ℕ) → 1 ≤ cond (nat_eq group group) (1 + rest) 0
own_group group rest = let e = eq-eqb group group refl in rw e (omega arith)

some_in_rows : (r : ℕ) (rows : List RowSpec) → SpanRows rows → SpanColumns rows → AreSome (areas_from r rows)
some_in_rows r [] down across = tt
some_in_rows r (row ∷ rows) down across =
    both_some (areas_in_row r (rows_left (row ∷ rows)) row.cells) (areas_from (r + 1) rows)
    (some_in_row r (rows_left (row ∷ rows)) row.cells (own_group row.group (rows_of_group row.group rows)) (down 0 row (omega arith)) (across 0 row (omega arith)))
    (some_in_rows (r + 1) rows (λ k d less. down (suc k) d (omega arith)) (λ k d less. across (suc k) d (omega arith)))

some_at : (cells : List Cell) → AreSome (areas_of cells) → (k : ℕ) (d : Cell) → k < length cells → IsSome (get_or cells k d).area
some_at [] some k d less = absurd (omega arith)
some_at (cell ∷ cells) some zero d less = some.0
some_at (cell ∷ cells) some (suc k) d less = some_at cells some.1 k d (omega arith)

stand_at : (placed : List PlacedCell) (k : ℕ) (d : PlacedCell) → get_or (stands_of placed) k d.cell ≡ (get_or placed k d).cell
stand_at [] k d = refl
stand_at (x ∷ placed) zero d = refl
stand_at (x ∷ placed) (suc k) d = stand_at placed k d

-- cells cover some of the rows each, and some columns
pub all_cover : (n : ℕ) (specs : List RowSpec) (cells : List Cell) (placed : List PlacedCell) → SpanRows specs → SpanColumns specs → length specs ≡ n
    → areas_of cells ≡ areas_from 0 specs → stands_of placed ≡ cells → All (CoversRows n) placed
all_cover n specs cells placed down across count areas stand = λ k d less.
    let count_is = length-map placed (λ p. p.cell) in
    let many = ap length stand in
    let within : k < length cells = omega arith in
    let here : get_or cells k d.cell ≡ (get_or placed k d).cell = ap (λ (xs : List Cell). get_or xs k d.cell) (sym stand) ∙ stand_at placed k d in
    let some = subst IsSome (ap (λ (cell : Cell). cell.area) here) (some_at cells (subst AreSome (sym areas) (some_in_rows 0 specs down across)) k d.cell within) in
    let end = subst (λ (cell : Cell). cell.area.end ≤ length specs) here (cells_end specs cells areas k d.cell within) in
    record { some_rows = some.rows; last_row = omega arith; some_columns = some.columns }
