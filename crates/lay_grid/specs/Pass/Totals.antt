-- The least height from a given one on with which a row, if it is the last, gives the rows the
-- table's height.
use Rattle.std.specs.Prelude.{◌≡◌, ◌+◌, ℤ, ◌+ℤ◌, ◌≤ℤ◌, List, length}
use Rattle.lay_units.specs.declared.length.Unit.{Unit}
use Rattle.lay_grid.specs.declared.heights.RowsIn.{RowsIn}
use Rattle.lay_grid.specs.Shares.{sum_of}

-- where the row below these is the last, the rows are as high as the table asks for
abbrev pub IsTotal : RowsIn → List Unit → ℤ → Type 0
IsTotal r above height = length above + 1 ≡ length r.own → r.total.0 ≤ℤ (sum_of above +ℤ height)

pub record Totals (r : RowsIn) (above : List Unit) (before after : ℤ) : Type 0 where
  pub up : before ≤ℤ after
  pub total : IsTotal r above after
  pub least : (other : ℤ) → before ≤ℤ other → IsTotal r above other → after ≤ℤ other
