-- The columns' own widths while the cells of the first row give theirs, and what is counted while
-- columns share.
use Rattle.std.specs.Prelude.{ℕ, ◌+◌, ◌*◌, ◌≡◌, ◌<◌, ◌≤◌, ◌⊎◌, ℤ, pos, ◌+ℤ◌, ◌≤ℤ◌}
use Rattle.std.specs.Prelude.{Bool, true, false, cond, Option, List, [], ◌∷◌, length, drop}
use Rattle.lay_units.specs.declared.length.Unit.{Unit}
use Rattle.lay_grid.specs.declared.columns.FirstCell.{FirstCell}
use Rattle.lay_grid.specs.Shares.{own_at, takes_share, sum_of, sum_own, share_at, takes_at, all_own}
use Rattle.lay_grid.specs.Columns.{given_by, or_else}

-- one more cell gave its widths
pub record Gives (spacing : ℤ) (cell : FirstCell) (before after : List (Option Unit)) : Type 0 where
  pub as_many : length after ≡ length before
  pub own : (i : ℕ) → i < length before
      → own_at after i ≡ or_else (own_at before i) (given_by spacing cell cell.width i)

-- how many columns take a share
abbrev pub count_takers : Bool → List (Option Unit) → ℕ
count_takers all [] = 0
count_takers all (own ∷ owns) = cond (takes_share all own) 1 0 + count_takers all owns

-- the first n columns have their widths, and `more` of the further shares are greater by a unit
-- than `each`
pub record SharedTo (owns : List (Option Unit)) (rest each more n : ℕ) (widths : List Unit)
    : Type 0 where
  pub as_many : length widths ≡ n
  pub sum : ((sum_of widths +ℤ sum_own (drop n owns))
      +ℤ pos (count_takers (all_own owns) (drop n owns) * each + more))
      ≡ (sum_own owns +ℤ pos rest)
  pub enough : more ≤ count_takers (all_own owns) (drop n owns)
  pub kept : (i : ℕ) → i < n → takes_at owns i ≡ false → share_at owns widths i ≡ pos 0
  pub taken : (i : ℕ) → i < n → takes_at owns i ≡ true
      → (share_at owns widths i ≡ pos (each + 1))
      ⊎ ((share_at owns widths i ≡ pos each) × (more ≡ 0))
  pub order : (i j : ℕ) → i < j → j < n → takes_at owns i ≡ true → takes_at owns j ≡ true
      → share_at owns widths j ≤ℤ share_at owns widths i
