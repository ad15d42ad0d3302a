-- Which columns the calls are asked for: fewer than 2^32, with lengths that are sizes, cells and
-- groups over one column at least that lie inside the columns, maximums that aren't below their
-- minimums, and a table that is as wide as the minimums together at least.
use Rattle.std.specs.Prelude.{ℕ, ◌+◌, ◌^◌, ◌<◌, ◌≤◌, ℤ, pos, ◌≤ℤ◌, ◌<ℤ◌, List, length, All}
use Rattle.lay_units.specs.Units.{IsSize}
use Rattle.lay_grid.specs.declared.automatic.bounds.Bound.{Bound}
use Rattle.lay_grid.specs.declared.automatic.bounds.BoundsIn.{BoundsIn}
use Rattle.lay_grid.specs.declared.automatic.bounds.GroupSpan.{GroupSpan}
use Rattle.lay_grid.specs.declared.automatic.bounds.SpanCell.{SpanCell}
use Rattle.lay_grid.specs.Automatic.Sizes.{MayBeSize}
use Rattle.lay_grid.specs.Automatic.AutoColumns.{sum_min}

pub record SpanFits (columns : ℕ) (span : GroupSpan) : Type 0 where
  pub some : 1 ≤ span.span
  pub inside : span.column + span.span ≤ columns
  pub width : IsSize span.width.0

pub record CellFits (columns : ℕ) (cell : SpanCell) : Type 0 where
  pub some : 1 ≤ cell.span
  pub inside : cell.column + cell.span ≤ columns
  pub min : IsSize cell.min.0
  pub max : IsSize cell.max.0

pub record BoundsFit (i : BoundsIn) : Type 0 where
  pub few : length i.given < 2 ^ 32
  pub given : All MayBeSize i.given
  pub cells : All (CellFits (length i.given)) i.cells
  pub groups : All (SpanFits (length i.given)) i.groups
  pub spacing : IsSize i.spacing.0

pub record BoundFits (bound : Bound) : Type 0 where
  pub min : pos 0 ≤ℤ bound.min.0
  pub order : bound.min.0 ≤ℤ bound.max.0
  pub max : bound.max.0 <ℤ pos (2 ^ 62)

pub record SpaceFits (bounds : List Bound) (space : ℤ) : Type 0 where
  pub few : length bounds < 2 ^ 32
  pub order : All BoundFits bounds
  pub least : sum_min bounds ≤ℤ space
  pub most : space <ℤ pos (2 ^ 62)
