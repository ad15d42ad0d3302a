-- How wide a column is to be for itself (CSS 2.2, 17.5.2.2): as wide as the widest of the cells that
-- span it alone, and at least as wide as its column element says.
--
-- A column with the width 500 and cells of 300, 700 and 600 that span no other one: 700.
use Rattle.std.specs.Prelude.{ℕ, ◌≡◌, ◌<◌, ℤ, Bool, false, cond, nat_eq, Option, List, [], ◌∷◌, length}
use Rattle.std.specs.Int.{int_max}
use Rattle.lay_units.specs.declared.length.Unit.{Unit}
use Rattle.lay_grid.specs.declared.automatic.bounds.GroupSpan.{GroupSpan}
use Rattle.lay_grid.specs.Shares.{own_at, own_width, width_at}

-- whether a cell spans the column i and no other
abbrev pub has_alone : GroupSpan → ℕ → Bool
has_alone cell i = cond (nat_eq cell.span 1) (nat_eq cell.column i) false

-- the greatest of the widths of the cells that span the column i alone, and of `least`
abbrev pub greatest : ℤ → List GroupSpan → ℕ → ℤ
greatest least [] i = least
greatest least (cell ∷ cells) i =
    cond (has_alone cell i) (int_max cell.width.0 (greatest least cells i)) (greatest least cells i)

-- the columns' own widths; without a column element and without such cells that is 0
pub record AreOwn (given : List (Option Unit)) (cells : List GroupSpan) (widths : List Unit)
    : Type 0 where
  pub as_many : length widths ≡ length given
  pub own : (i : ℕ) → i < length given
      → width_at widths i ≡ greatest (own_width (own_at given i)) cells i
