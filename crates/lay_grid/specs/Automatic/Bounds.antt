-- The minimum and the maximum of each column (CSS 2.2, 17.5.2.2). A column is as wide as the cells
-- that it has alone and its column element ask, then each cell over more columns widens those that
-- it spans, row by row and from left to right. So it is for the cells' minimums, and so for their
-- maximums. Column groups widen minimums alone, after all cells. At last a maximum that is below its
-- minimum is raised to it.
use Rattle.std.specs.Prelude.{ℕ, ◌≡◌, ◌<◌, Option, List, [], ◌∷◌, length, slice_index_or}
use Rattle.std.specs.Int.{int_max}
use Rattle.std.specs.Prelude.{ℤ, pos}
use Rattle.lay_units.specs.declared.length.Unit.{Unit}
use Rattle.lay_grid.specs.declared.automatic.bounds.Bound.{Bound}
use Rattle.lay_grid.specs.declared.automatic.bounds.BoundsIn.{BoundsIn}
use Rattle.lay_grid.specs.declared.automatic.bounds.GroupSpan.{GroupSpan}
use Rattle.lay_grid.specs.declared.automatic.bounds.SpanCell.{SpanCell}
use Rattle.lay_grid.specs.Shares.{width_at}
use Rattle.lay_grid.specs.Automatic.Own.{AreOwn}
use Rattle.lay_grid.specs.Automatic.Spread.{AreWidened}

-- cells with their minimums, and with their maximums
abbrev pub minimum_spans : List SpanCell → List GroupSpan
minimum_spans [] = []
minimum_spans (cell ∷ cells) =
    record { column = cell.column; span = cell.span; width = cell.min } ∷ minimum_spans cells

abbrev pub maximum_spans : List SpanCell → List GroupSpan
maximum_spans [] = []
maximum_spans (cell ∷ cells) =
    record { column = cell.column; span = cell.span; width = cell.max } ∷ maximum_spans cells

-- the widths of columns with these cells and groups
pub record AreWidths (given : List (Option Unit)) (spacing : ℤ) (cells groups : List GroupSpan)
    (widths : List Unit) : Type 0 where
  pub own : List Unit
  pub by_cells : List Unit
  pub are_own : AreOwn given cells own
  pub after_cells : AreWidened spacing cells own by_cells
  pub after_groups : AreWidened spacing groups by_cells widths

-- the bounds of the column i
abbrev pub bound_at : List Bound → ℕ → Bound
bound_at bounds i = slice_index_or bounds i (record { min = record { 0 = pos 0 }; max = record { 0 = pos 0 } })

abbrev pub min_at : List Bound → ℕ → ℤ
min_at bounds i = (bound_at bounds i).min.0

abbrev pub max_at : List Bound → ℕ → ℤ
max_at bounds i = (bound_at bounds i).max.0

-- minimums and maximums as bounds
pub record ArePaired (minimums maximums : List Unit) (bounds : List Bound) : Type 0 where
  pub as_many : length bounds ≡ length minimums
  pub min : (i : ℕ) → i < length minimums → min_at bounds i ≡ width_at minimums i
  pub max : (i : ℕ) → i < length minimums
      → max_at bounds i ≡ int_max (width_at maximums i) (width_at minimums i)

pub record AreBounds (i : BoundsIn) (bounds : List Bound) : Type 0 where
  pub minimums : List Unit
  pub maximums : List Unit
  pub narrow : AreWidths i.given i.spacing.0 (minimum_spans i.cells) i.groups minimums
  pub wide : AreWidths i.given i.spacing.0 (maximum_spans i.cells) [] maximums
  pub paired : ArePaired minimums maximums bounds
