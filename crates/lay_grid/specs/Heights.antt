-- The heights of the rows of a table (CSS 2.2, 17.5.3), from the first on. A row is as low as it
-- can be that is no lower than its own height and has room for each cell whose last row it is. A
-- cell needs its height, and where it is on the baseline of its row, as much more as its own
-- baseline is above that. It has the rows that it spans with the spacings between them, so that
-- what is missing comes to its last row. The last row is no lower than the table's height asks for.
--
-- Three rows with the heights 640, 0 and 0 and a cell over all three that needs 1920: 640, 0 and
-- 1280.
use Rattle.std.specs.Prelude.{ℕ, ◌≡◌, ◌+◌, ◌-◌, ℤ, pos, ◌+ℤ◌, ◌-ℤ◌, ◌*ℤ◌, ◌≤ℤ◌, ⊤}
use Rattle.std.specs.Prelude.{Option, Some, None, List, [], ◌∷◌, ◌++◌, length, drop, slice_get}
use Rattle.lay_units.specs.declared.length.Unit.{Unit}
use Rattle.lay_grid.specs.declared.heights.RowCell.{RowCell}
use Rattle.lay_grid.specs.declared.heights.RowsIn.{RowsIn}
use Rattle.lay_grid.specs.Shares.{sum_of, width_at}

-- some cell that begins in the row has this baseline
abbrev pub HasBaseline : List RowCell → ℕ → ℤ → Type 0
HasBaseline cells row b =
    (k : ℕ) × (cell : RowCell) × (slice_get cells k ≡ Some cell)
    × (cell.row ≡ row) × (cell.baseline ≡ Some (record { 0 = b }))

-- the baseline of a row is the lowest of its cells'
pub record IsRowBaseline (cells : List RowCell) (row : ℕ) (b : ℤ) : Type 0 where
  pub one_of : HasBaseline cells row b
  pub lowest : (other : ℤ) → HasBaseline cells row other → other ≤ℤ b

-- so much is enough for a cell with this baseline, or none
abbrev pub IsEnough : List RowCell → RowCell → Option Unit → ℤ → Type 0
IsEnough cells cell None room = cell.height.0 ≤ℤ room
IsEnough cells cell (Some own) room =
    (b : ℤ) → IsRowBaseline cells cell.row b → (cell.height.0 +ℤ (b -ℤ own.0)) ≤ℤ room

-- what a cell has from the rows above its last one, from its first on, and from the spacings
abbrev pub room_above : RowsIn → List Unit → ℕ → ℕ → ℤ
room_above r above row span = sum_of (drop row above) +ℤ (r.spacing.0 *ℤ pos (span - 1))

-- the row below these can have this height
pub record RowFits (r : RowsIn) (above : List Unit) (height : ℤ) : Type 0 where
  pub own : width_at r.own (length above) ≤ℤ height
  pub cells : (k : ℕ) (cell : RowCell) → slice_get r.cells k ≡ Some cell
      → cell.row + cell.span ≡ length above + 1
      → IsEnough r.cells cell cell.baseline (room_above r above cell.row cell.span +ℤ height)
  pub total : length above + 1 ≡ length r.own → r.total.0 ≤ℤ (sum_of above +ℤ height)

-- and no lower one
pub record IsLowest (r : RowsIn) (above : List Unit) (height : ℤ) : Type 0 where
  pub fits : RowFits r above height
  pub least : (other : ℤ) → RowFits r above other → height ≤ℤ other

-- rows below these, from the first on
abbrev pub AreLowest : RowsIn → List Unit → List Unit → Type 0
AreLowest r above [] = ⊤
AreLowest r above (height ∷ heights) =
    IsLowest r above height.0 × AreLowest r (above ++ height ∷ []) heights

pub record AreHeights (r : RowsIn) (heights : List Unit) : Type 0 where
  pub as_many : length heights ≡ length r.own
  pub lowest : AreLowest r [] heights
