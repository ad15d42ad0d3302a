-- The bounds of columns and their widths are single values, and there are such. What they come to:
-- each cell finds room in the columns that it spans, and widens them by no more than it lacks; and
-- the columns fill the table's width, each within its bounds as far as that goes.
use Rattle.std.specs.Prelude.{ℕ, ◌≡◌, ◌+◌, ◌<◌, ◌≤◌, ℤ, pos, ◌+ℤ◌, ◌-ℤ◌, ◌≤ℤ◌, ◌<ℤ◌}
use Rattle.std.specs.Prelude.{List, [], ◌∷◌, length, take, drop, All, Option}
use Rattle.std.specs.Int.{int_max}
use Rattle.lay_units.specs.declared.length.Unit.{Unit}
use Rattle.lay_grid.specs.declared.automatic.bounds.Bound.{Bound}
use Rattle.lay_grid.specs.declared.automatic.bounds.BoundsIn.{BoundsIn}
use Rattle.lay_grid.specs.declared.automatic.bounds.GroupSpan.{GroupSpan}
use Rattle.lay_grid.specs.declared.automatic.bounds.SpanCell.{SpanCell}
use Rattle.lay_grid.specs.Shares.{own_at, own_width, sum_of, width_at}
use Rattle.lay_grid.specs.Within.{IsUpTo}
use Rattle.lay_grid.specs.Automatic.Bounds.{AreBounds, max_at, maximum_spans, min_at, minimum_spans}
use Rattle.lay_grid.specs.Automatic.Spread.{IsWidened, found_in}
use Rattle.lay_grid.specs.Automatic.AutoColumns.{AreAutoColumns, sum_max, sum_min}
use Rattle.lay_grid.specs.Automatic.Fit.{BoundFits, BoundsFit, SpanFits}

abbrev pub OneListOfBounds : Type 0
OneListOfBounds = (i : BoundsIn) (v w : List Bound) → AreBounds i v → AreBounds i w → v ≡ w

abbrev pub OneListOfColumns : Type 0
OneListOfColumns = (bounds : List Bound) (space : ℤ) (v w : List Unit)
    → AreAutoColumns bounds space v → AreAutoColumns bounds space w → v ≡ w

-- and there is one: of bounds whatever is asked, and of columns in each space that is no less than their minimums together,
-- also where a minimum is greater than its maximum
abbrev pub ColumnsHaveBounds : Type 0
ColumnsHaveBounds = (i : BoundsIn) → (bounds : List Bound) × AreBounds i bounds

abbrev pub ColumnsHaveWidths : Type 0
ColumnsHaveWidths = (bounds : List Bound) (space : ℤ) → sum_min bounds ≤ℤ space
    → (widths : List Unit) × AreAutoColumns bounds space widths

-- each of these is no wider than the columns that it spans with the spacings between them
abbrev pub HaveRoom : ℤ → List GroupSpan → List Unit → Type 0
HaveRoom spacing cells widths =
    All (λ (cell : GroupSpan). cell.width.0 ≤ℤ found_in spacing cell widths) cells

abbrev pub minimums_of : List Bound → List Unit
minimums_of [] = []
minimums_of (bound ∷ bounds) = bound.min ∷ minimums_of bounds

abbrev pub maximums_of : List Bound → List Unit
maximums_of [] = []
maximums_of (bound ∷ bounds) = bound.max ∷ maximums_of bounds

-- columns with room for all that is given
pub record HaveRoomFor (i : BoundsIn) (bounds : List Bound) : Type 0 where
  pub given : (k : ℕ) → k < length i.given → own_width (own_at i.given k) ≤ℤ min_at bounds k
  pub order : (k : ℕ) → k < length i.given → min_at bounds k ≤ℤ max_at bounds k
  pub minimums : HaveRoom i.spacing.0 (minimum_spans i.cells) (minimums_of bounds)
  pub maximums : HaveRoom i.spacing.0 (maximum_spans i.cells) (maximums_of bounds)
  pub groups : HaveRoom i.spacing.0 i.groups (minimums_of bounds)

abbrev pub BoundsHaveRoom : Type 0
BoundsHaveRoom = (i : BoundsIn) (bounds : List Bound)
    → BoundsFit i → AreBounds i bounds → HaveRoomFor i bounds

-- the columns that a cell spans
abbrev pub spanned : GroupSpan → List Unit → List Unit
spanned cell widths = take cell.span (drop cell.column widths)

-- columns with a spacing before each, and columns side by side, with a spacing between neighbours
abbrev pub with_spacings_before : ℤ → List Unit → ℤ
with_spacings_before spacing [] = pos 0
with_spacings_before spacing (width ∷ widths) = (spacing +ℤ width.0) +ℤ with_spacings_before spacing widths

abbrev pub side_by_side : ℤ → List Unit → ℤ
side_by_side spacing [] = pos 0
side_by_side spacing (width ∷ widths) = width.0 +ℤ with_spacings_before spacing widths

-- the column i is one of those that a cell spans, and how far a column is widened
abbrev pub IsSpanned : GroupSpan → ℕ → Type 0
IsSpanned cell i = (cell.column ≤ i) × (i < cell.column + cell.span)

abbrev pub width_growth : List Unit → List Unit → ℕ → ℤ
width_growth before after i = width_at after i -ℤ width_at before i

-- What a cell does to columns once its turn has come. Those that it spans are then as wide as it, or as they
-- were where that is more. Each of them grows, by parts that differ by a unit at most, and no other column does.
pub record IsWidenedByNeed (spacing : ℤ) (cell : GroupSpan) (before after : List Unit) : Type 0 where
  pub together : side_by_side spacing (spanned cell after)
      ≡ int_max cell.width.0 (side_by_side spacing (spanned cell before))
  pub wider : (i : ℕ) → IsSpanned cell i → pos 0 ≤ℤ width_growth before after i
  pub alike : (i j : ℕ) → IsSpanned cell i → IsSpanned cell j
      → width_growth before after i ≤ℤ (width_growth before after j +ℤ pos 1)
  pub others : (i : ℕ) → i < length before → (IsSpanned cell i → ⊥) → width_growth before after i ≡ pos 0

abbrev pub CellsWidenByNeed : Type 0
CellsWidenByNeed = (spacing : ℤ) (cell : GroupSpan) (before after : List Unit) → SpanFits (length before) cell
    → IsWidened spacing cell before after → IsWidenedByNeed spacing cell before after

-- columns of which nothing asks for more than so much
pub record AskUpTo (i : BoundsIn) (most : ℕ) : Type 0 where
  pub given : All (λ (own : Option Unit). IsUpTo most (own_width own)) i.given
  pub minimums : All (λ (cell : SpanCell). cell.min.0 ≤ℤ pos most) i.cells
  pub maximums : All (λ (cell : SpanCell). cell.max.0 ≤ℤ pos most) i.cells
  pub groups : All (λ (group : GroupSpan). group.width.0 ≤ℤ pos most) i.groups

-- bounds in order, from 0 to so much
pub record IsBoundUpTo (most : ℕ) (bound : Bound) : Type 0 where
  pub min : pos 0 ≤ℤ bound.min.0
  pub order : bound.min.0 ≤ℤ bound.max.0
  pub max : bound.max.0 ≤ℤ pos most

-- then none is wider
abbrev pub BoundsAreWithin : Type 0
BoundsAreWithin = (i : BoundsIn) (most : ℕ) (bounds : List Bound)
    → BoundsFit i → AskUpTo i most → AreBounds i bounds → All (IsBoundUpTo most) bounds

-- and all are sizes, which columns can share a space by
abbrev pub BoundsAreSizes : Type 0
BoundsAreSizes = (i : BoundsIn) (bounds : List Bound) → BoundsFit i → AreBounds i bounds → All BoundFits bounds

-- the columns of a table together are as wide as it says
abbrev pub ColumnsFillTheSpace : Type 0
ColumnsFillTheSpace = (bounds : List Bound) (space : ℤ) (widths : List Unit)
    → 0 < length bounds → AreAutoColumns bounds space widths → sum_of widths ≡ space

-- what a column gets
pub record IsWithin (bounds : List Bound) (space : ℤ) (widths : List Unit) (i : ℕ) : Type 0 where
  pub least : min_at bounds i ≤ℤ width_at widths i
  pub most : space ≤ℤ sum_max bounds → width_at widths i ≤ℤ max_at bounds i
  pub beyond : sum_max bounds <ℤ space → max_at bounds i ≤ℤ width_at widths i

abbrev pub ColumnsAreWithin : Type 0
ColumnsAreWithin = (bounds : List Bound) (space : ℤ) (widths : List Unit) (i : ℕ)
    → All BoundFits bounds → sum_min bounds ≤ℤ space → AreAutoColumns bounds space widths
    → i < length bounds → IsWithin bounds space widths i
