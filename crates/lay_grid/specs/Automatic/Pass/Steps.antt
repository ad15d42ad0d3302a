-- What a loop's step does, and what is counted while columns share.
use Rattle.std.specs.Prelude.{ℕ, ◌≡◌, ◌+◌, ◌<◌, ◌≤◌, ℤ, pos, ◌+ℤ◌, ◌≤ℤ◌, ◌<ℤ◌}
use Rattle.std.specs.Prelude.{cond, List, [], ◌∷◌, length, drop}
use Rattle.std.specs.Int.{int_max}
use Rattle.lay_units.specs.declared.length.Unit.{Unit}
use Rattle.lay_grid.specs.declared.automatic.bounds.Bound.{Bound}
use Rattle.lay_grid.specs.declared.automatic.bounds.GroupSpan.{GroupSpan}
use Rattle.lay_grid.specs.Shares.{sum_of, width_at}
use Rattle.lay_grid.specs.Automatic.Own.{has_alone}
use Rattle.lay_grid.specs.Automatic.AutoColumns.{sum_min, sum_room, beyond_minimums, share_of, most_left_over}
use Rattle.lay_grid.specs.Automatic.AutoColumns.{left_over_at, most_left_over_at}

-- a column is as wide as one more cell that it has alone
pub record IsWidthRaised (cell : GroupSpan) (before after : List Unit) : Type 0 where
  pub as_many : length after ≡ length before
  pub each : (i : ℕ) → i < length before → width_at after i
      ≡ cond (has_alone cell i) (int_max cell.width.0 (width_at before i)) (width_at before i)

-- the shares of columns together
abbrev pub sum_shares : ℕ → ℕ → List Bound → ℕ
sum_shares rest rooms [] = 0
sum_shares rest rooms (bound ∷ bounds) = share_of rest rooms bound + sum_shares rest rooms bounds

-- those of a table's columns from the n-th on
abbrev pub shares_from : List Bound → ℤ → ℕ → ℕ
shares_from bounds space n =
    sum_shares (beyond_minimums bounds space) (sum_room bounds) (drop n bounds)

-- how many units they can have beyond their shares
abbrev pub sum_most : List Bound → ℕ
sum_most [] = 0
sum_most (bound ∷ bounds) = most_left_over bound + sum_most bounds

-- the first n columns have their widths, and `more` units are left over
pub record SharedTo (bounds : List Bound) (space : ℤ) (more n : ℕ) (widths : List Unit) : Type 0 where
  pub as_many : length widths ≡ n
  pub sum : (sum_of widths +ℤ (sum_min (drop n bounds)
      +ℤ pos (shares_from bounds space n + more))) ≡ space
  pub enough : more ≤ sum_most (drop n bounds)
  pub left_over : (i : ℕ) → i < n
      → (pos 0 ≤ℤ left_over_at bounds space widths i)
      × (left_over_at bounds space widths i ≤ℤ most_left_over_at bounds i)
  pub full : (i : ℕ) → i < n → 0 < more
      → left_over_at bounds space widths i ≡ most_left_over_at bounds i
  pub first : (i j : ℕ) → i < j → j < n → pos 0 <ℤ left_over_at bounds space widths j
      → left_over_at bounds space widths i ≡ most_left_over_at bounds i
