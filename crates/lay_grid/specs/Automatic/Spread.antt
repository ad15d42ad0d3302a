-- How a cell widens the columns that it spans (CSS 2.2, 17.5.2.2): together, and with the spacings
-- between them, they are to be at least as wide as it. What is lacking is shared by them in equal
-- parts, of which the first are greater by a unit each where it doesn't divide. A cell over one
-- column lacks nothing once that is as wide as each of its cells.
--
-- A cell of 1000 over three columns of 200, 100 and 300 with spacings of 50 lacks 300. With a width
-- of 1001 it lacks 301: 301, 200 and 400.
use Rattle.std.specs.Prelude.{ℕ, zero, suc, ◌≡◌, ◌+◌, ◌-◌, ◌<◌, ℤ, pos, ◌+ℤ◌, ◌-ℤ◌, ◌*ℤ◌}
use Rattle.std.specs.Prelude.{Bool, false, cond, nat_lt, List, [], ◌∷◌, length}
use Rattle.lay_units.specs.declared.length.Unit.{Unit}
use Rattle.lay_grid.specs.declared.automatic.bounds.GroupSpan.{GroupSpan}
use Rattle.lay_grid.specs.Columns.{from_zero, part_of}
use Rattle.lay_grid.specs.Shares.{width_at}

-- how wide so many columns are together, from this one on
abbrev pub sum_over : List Unit → ℕ → ℕ → ℤ
sum_over widths column zero = pos 0
sum_over widths column (suc n) = width_at widths column +ℤ sum_over widths (column + 1) n

-- what a cell finds in columns of these widths, with the spacings between them
abbrev pub found_in : ℤ → GroupSpan → List Unit → ℤ
found_in spacing cell widths =
    sum_over widths cell.column cell.span +ℤ (spacing *ℤ pos (cell.span - 1))

-- what it lacks there
abbrev pub lacking : ℤ → GroupSpan → List Unit → ℕ
lacking spacing cell widths = from_zero (cell.width.0 -ℤ found_in spacing cell widths)

abbrev pub spans : GroupSpan → ℕ → Bool
spans cell i = cond (nat_lt i cell.column) false (nat_lt i (cell.column + cell.span))

-- what it adds to the column i
abbrev pub added : ℤ → GroupSpan → List Unit → ℕ → ℕ
added spacing cell widths i =
    cond (spans cell i) (part_of (lacking spacing cell widths) cell.span (i - cell.column)) 0

-- the columns once a cell has widened them
pub record IsWidened (spacing : ℤ) (cell : GroupSpan) (before after : List Unit) : Type 0 where
  pub as_many : length after ≡ length before
  pub each : (i : ℕ) → i < length before
      → width_at after i ≡ (width_at before i +ℤ pos (added spacing cell before i))

-- once each of the cells has, one after another
abbrev pub AreWidened : ℤ → List GroupSpan → List Unit → List Unit → Type 0
AreWidened spacing [] before after = before ≡ after
AreWidened spacing (cell ∷ cells) before after =
    (between : List Unit) × IsWidened spacing cell before between
    × AreWidened spacing cells between after
