-- How columns share a width in the fixed table layout (CSS 2.2, 17.5.2.1), where some have a width
-- of their own. Together they are as wide as is asked, or as their own widths where those are
-- wider. A column with a width of its own keeps it, and the others share the rest. Where each has
-- its own, all share what is left over. Shares are equal, but that the first ones are greater by a
-- unit each where the rest doesn't divide.
--
-- Three columns in 3301 units, the first with the width 3200: 3200, 51 and 50.
use Rattle.std.specs.Prelude.{ℕ, ◌≡◌, ◌<◌, ℤ, pos, ◌+ℤ◌, ◌-ℤ◌, ◌≤ℤ◌, Bool, true, false}
use Rattle.std.specs.Prelude.{Option, Some, None, List, [], ◌∷◌, length, slice_index_or}
use Rattle.std.specs.Int.{int_max}
use Rattle.lay_units.specs.declared.length.Unit.{Unit}

-- a column's own width, 0 where it has none
abbrev pub own_width : Option Unit → ℤ
own_width None = pos 0
own_width (Some width) = width.0

abbrev pub sum_own : List (Option Unit) → ℤ
sum_own [] = pos 0
sum_own (own ∷ owns) = own_width own +ℤ sum_own owns

abbrev pub sum_of : List Unit → ℤ
sum_of [] = pos 0
sum_of (width ∷ widths) = width.0 +ℤ sum_of widths

-- whether each column has a width of its own
abbrev pub all_own : List (Option Unit) → Bool
all_own [] = true
all_own (None ∷ owns) = false
all_own (Some width ∷ owns) = all_own owns

-- a column takes a share where it has no width of its own, or where all have one
abbrev pub takes_share : Bool → Option Unit → Bool
takes_share all None = true
takes_share all (Some width) = all

-- the width of the column i, and what it takes beyond its own
abbrev pub width_at : List Unit → ℕ → ℤ
width_at widths i = (slice_index_or widths i (record { 0 = pos 0 })).0

abbrev pub own_at : List (Option Unit) → ℕ → Option Unit
own_at owns i = slice_index_or owns i None

abbrev pub share_at : List (Option Unit) → List Unit → ℕ → ℤ
share_at owns widths i = width_at widths i -ℤ own_width (own_at owns i)

abbrev pub takes_at : List (Option Unit) → ℕ → Bool
takes_at owns i = takes_share (all_own owns) (own_at owns i)

-- an earlier share may be greater, by a unit
abbrev pub AreEqualShares : ℤ → ℤ → Type 0
AreEqualShares earlier later = (later ≤ℤ earlier) × (earlier ≤ℤ (later +ℤ pos 1))

pub record AreShared (owns : List (Option Unit)) (asked : ℤ) (widths : List Unit) : Type 0 where
  pub as_many : length widths ≡ length owns
  pub sum : 0 < length owns → sum_of widths ≡ int_max asked (sum_own owns)
  pub kept : (i : ℕ) → i < length owns → takes_at owns i ≡ false → share_at owns widths i ≡ pos 0
  pub equal : (i j : ℕ) → i < j → j < length owns → takes_at owns i ≡ true → takes_at owns j ≡ true
      → AreEqualShares (share_at owns widths i) (share_at owns widths j)
