-- How narrow and how wide a table asks to be that is laid out by the automatic algorithm (CSS 2.2, 17.5.2.2): the bounds of its columns,
-- and how narrow its captions can be.
use Rattle.std.specs.Prelude.{◌≡◌, ℕ, zero, suc, All, List, [], ◌∷◌, ◌++◌, Option, Some, None}
use Rattle.std.specs.Arc.{arc_value}
use Rattle.std.specs.declared.sync.Arc.{Arc}
use Rattle.lay_units.specs.declared.length.Unit.{Unit as Length}
use Rattle.lay_units.specs.Lengths.{no_length}
use Rattle.lay_box_tree.specs.declared.box_tree.BoxNode.{BoxNode}
use Rattle.lay_measure.specs.declared.preferred_widths.PreferredWidths.{PreferredWidths}
use Rattle.lay_grid.specs.Automatic.Bounds.{bound_at}
use Rattle.lay_grid.specs.Automatic.Fit.{BoundFits}
use Rattle.lay_grid.specs.declared.automatic.bounds.Bound.{Bound}
use Rattle.lay_table_grid.specs.TableGrid.{TableGridValue}
use Rattle.lay_table_sizes.specs.ColumnBounds.{AreTableBounds}
use Rattle.lay_table_sizes.specs.CaptionWidths.{captions_minimum}

pub record TableBoundsValue : Type 0 where
  pub columns : List Bound
  pub captions : Length

-- those of what is no table, or of one that is laid out by the fixed algorithm
abbrev pub no_bounds : TableBoundsValue
no_bounds = record { columns = []; captions = no_length }

abbrev pub columns_or_none : {Z : Type 0} → Option (Arc (List Bound) Z) → List Bound
columns_or_none None = []
columns_or_none (Some columns) = arc_value columns

-- columns can share a space by them
abbrev pub TableBoundsFit : TableBoundsValue → Type 0
TableBoundsFit t = All BoundFits t.columns

-- the first n of these, and columns of which nothing is asked behind the last
abbrev pub first_bounds : List Bound → ℕ → List Bound
first_bounds bounds zero = []
first_bounds bounds (suc n) = first_bounds bounds n ++ bound_at bounds n ∷ []

-- Those of a table of so many columns. The bounds of a table are of as many columns as it has, and stand as they are.
abbrev pub bounds_of_columns : ℕ → TableBoundsValue → TableBoundsValue
bounds_of_columns n t = record { columns = first_bounds t.columns n; captions = t.captions }

pub record HasBounds (boxes : List BoxNode) (inner : List PreferredWidths) (g : TableGridValue) (t : TableBoundsValue) : Type 0 where
  pub columns : AreTableBounds boxes inner g t.columns
  pub captions : t.captions.0 ≡ captions_minimum inner boxes
