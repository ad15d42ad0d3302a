-- How columns share the width of a table in the automatic table layout (CSS 2.2, 17.5.2.2). Each has
-- its minimum. Where the table is no wider than the maximums together, what it has beyond the
-- minimums is shared in proportion to how far a column's maximum is above its minimum. Shares are
-- whole units: each is rounded down, and what that leaves goes a unit each to the first columns
-- whose maximum is above their minimum. In a wider table each column has its maximum, and the rest
-- is shared by all in equal parts, of which the first are greater by a unit each where it doesn't
-- divide.
--
-- Columns from 100 to 500, from 200 to 200 and from 0 to 201 in 602 units: of 302 beyond the minimums
-- the shares are 200, 0 and 101, and one is left over: 301, 200 and 101. In 903 units: 501, 201 and
-- 201.
use Rattle.std.specs.Prelude.{ℕ, ◌≡◌, ◌+◌, ◌*◌, ◌/◌, ◌<◌, ℤ, pos, ◌+ℤ◌, ◌-ℤ◌, ◌≤ℤ◌, ◌<ℤ◌}
use Rattle.std.specs.Prelude.{cond, nat_lt, List, [], ◌∷◌, length}
use Rattle.lay_units.specs.declared.length.Unit.{Unit}
use Rattle.lay_grid.specs.declared.automatic.bounds.Bound.{Bound}
use Rattle.lay_grid.specs.Columns.{from_zero, part_of}
use Rattle.lay_grid.specs.Shares.{sum_of, width_at}
use Rattle.lay_grid.specs.Automatic.Bounds.{bound_at, min_at, max_at}

abbrev pub sum_min : List Bound → ℤ
sum_min [] = pos 0
sum_min (bound ∷ bounds) = bound.min.0 +ℤ sum_min bounds

abbrev pub sum_max : List Bound → ℤ
sum_max [] = pos 0
sum_max (bound ∷ bounds) = bound.max.0 +ℤ sum_max bounds

-- how far a column's maximum is above its minimum, and those of all together
abbrev pub room : Bound → ℕ
room bound = from_zero (bound.max.0 -ℤ bound.min.0)

abbrev pub sum_room : List Bound → ℕ
sum_room [] = 0
sum_room (bound ∷ bounds) = room bound + sum_room bounds

-- its share of the rest, rounded down, where all have so much room
abbrev pub share_of : ℕ → ℕ → Bound → ℕ
share_of rest rooms bound = rest * room bound / rooms

-- what the minimums leave of the table's width
abbrev pub beyond_minimums : List Bound → ℤ → ℕ
beyond_minimums bounds space = from_zero (space -ℤ sum_min bounds)

abbrev pub share_at : List Bound → ℤ → ℕ → ℕ
share_at bounds space i =
    share_of (beyond_minimums bounds space) (sum_room bounds) (bound_at bounds i)

-- what the column i has beyond its minimum and its share
abbrev pub left_over_at : List Bound → ℤ → List Unit → ℕ → ℤ
left_over_at bounds space widths i =
    width_at widths i -ℤ (min_at bounds i +ℤ pos (share_at bounds space i))

-- the most that it can have so: a unit where its maximum is above its minimum
abbrev pub most_left_over : Bound → ℕ
most_left_over bound = cond (nat_lt 0 (room bound)) 1 0

abbrev pub most_left_over_at : List Bound → ℕ → ℤ
most_left_over_at bounds i = pos (most_left_over (bound_at bounds i))

-- columns that share in proportion
pub record AreInProportion (bounds : List Bound) (space : ℤ) (widths : List Unit) : Type 0 where
  pub as_many : length widths ≡ length bounds
  pub sum : 0 < length bounds → sum_of widths ≡ space
  pub left_over : (i : ℕ) → i < length bounds
      → (pos 0 ≤ℤ left_over_at bounds space widths i)
      × (left_over_at bounds space widths i ≤ℤ most_left_over_at bounds i)
  pub first : (i j : ℕ) → i < j → j < length bounds → pos 0 <ℤ left_over_at bounds space widths j
      → left_over_at bounds space widths i ≡ most_left_over_at bounds i

-- columns that are wider than their maximums
pub record AreBeyondMaximums (bounds : List Bound) (space : ℤ) (widths : List Unit) : Type 0 where
  pub as_many : length widths ≡ length bounds
  pub each : (i : ℕ) → i < length bounds → width_at widths i
      ≡ (max_at bounds i +ℤ pos (part_of (from_zero (space -ℤ sum_max bounds)) (length bounds) i))

pub record AreAutoColumns (bounds : List Bound) (space : ℤ) (widths : List Unit) : Type 0 where
  pub within : space ≤ℤ sum_max bounds → AreInProportion bounds space widths
  pub beyond : sum_max bounds <ℤ space → AreBeyondMaximums bounds space widths
