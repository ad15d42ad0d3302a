-- The columns of the fixed table layout (CSS 2.2, 17.5.2.1). A column has the width of its column
-- element, else of the first cell of the first row that has a width and covers the column. A cell
-- over more columns than one divides its width, less the spacings that it covers, over them in
-- equal parts, of which the first are greater by a unit each where it doesn't divide. The columns
-- together then take what the spacings leave of the table's width, as they share it. Spacings stand
-- before each column and after the last.
--
-- A cell of the width 3001 over two columns, with spacings of 100, gives them 1451 and 1450.
use Rattle.std.specs.Prelude.{ℕ, ◌≡◌, ◌+◌, ◌-◌, ◌<◌, ◌/◌, ◌%◌, ℤ, pos, ◌-ℤ◌, ◌*ℤ◌}
use Rattle.std.specs.Prelude.{Bool, false, cond, nat_lt, Option, Some, None, List, [], ◌∷◌, length}
use Rattle.std.specs.Int.{int_max}
use Rattle.lay_units.specs.declared.length.Unit.{Unit}
use Rattle.lay_grid.specs.declared.columns.FirstCell.{FirstCell}
use Rattle.lay_grid.specs.declared.columns.ColumnsIn.{ColumnsIn}
use Rattle.lay_grid.specs.Shares.{AreShared, own_at}

-- the k-th of n equal parts of a width, the first of which are greater where it doesn't divide
abbrev pub part_of : ℕ → ℕ → ℕ → ℕ
part_of width n k = width / n + cond (nat_lt k (width % n)) 1 0

-- 0 for a negative number
abbrev pub from_zero : ℤ → ℕ
from_zero (pos n) = n
from_zero _ = 0

-- what a cell divides over its columns
abbrev pub divided : ℤ → ℤ → ℕ → ℕ
divided spacing width span = from_zero (width -ℤ (spacing *ℤ pos (span - 1)))

abbrev pub covers_column : FirstCell → ℕ → Bool
covers_column cell i = cond (nat_lt i cell.column) false (nat_lt i (cell.column + cell.span))

-- a cell's part for the column i
abbrev pub part_for : ℤ → FirstCell → ℤ → ℕ → Unit
part_for spacing cell width i =
    record { 0 = pos (part_of (divided spacing width cell.span) cell.span (i - cell.column)) }

-- the width that a cell with this width gives to the column i, where it covers that
abbrev pub given_by : ℤ → FirstCell → Option Unit → ℕ → Option Unit
given_by spacing cell None i = None
given_by spacing cell (Some width) i =
    cond (covers_column cell i) (Some (part_for spacing cell width.0 i)) None

abbrev pub or_else : Option Unit → Option Unit → Option Unit
or_else None other = other
or_else (Some width) other = Some width

-- the width that the first of the cells gives that gives one
abbrev pub by_cells : ℤ → List FirstCell → ℕ → Option Unit
by_cells spacing [] i = None
by_cells spacing (cell ∷ cells) i =
    or_else (given_by spacing cell cell.width i) (by_cells spacing cells i)

-- the columns' own widths
pub record AreOwn (c : ColumnsIn) (owns : List (Option Unit)) : Type 0 where
  pub as_many : length owns ≡ length c.given
  pub own : (i : ℕ) → i < length c.given
      → own_at owns i ≡ or_else (own_at c.given i) (by_cells c.spacing.0 c.first i)

-- what the spacings leave of the table's width, if anything
abbrev pub width_of_columns : ColumnsIn → ℤ
width_of_columns c = int_max (pos 0) (c.width.0 -ℤ (c.spacing.0 *ℤ pos (length c.given + 1)))

pub record AreColumns (c : ColumnsIn) (widths : List Unit) : Type 0 where
  pub owns : List (Option Unit)
  pub own : AreOwn c owns
  pub shared : AreShared owns (width_of_columns c) widths
