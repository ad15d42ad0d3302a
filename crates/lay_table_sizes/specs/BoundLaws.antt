-- A table has one list of bounds and one width. What the width comes to, in the words of 17.5.2.2.
use Rattle.std.specs.Prelude.{◌≡◌, pos, ◌-ℤ◌, ◌≤ℤ◌, List, None}
use Rattle.std.specs.Int.{int_max, int_min}
use Rattle.lay_units.specs.Units.{IsUsedSize}
use Rattle.lay_units.specs.declared.length.Unit.{Unit as Length}
use Rattle.lay_units.specs.declared.records.BlockIn.{BlockIn}
use Rattle.lay_units.specs.declared.records.Len.TheVariants.{Auto as auto, Of as of}
use Rattle.lay_units.specs.declared.records.Sides.{Sides}
use Rattle.lay_style.specs.declared.style.Style.{Style}
use Rattle.lay_box_tree.specs.declared.box_tree.BoxNode.{BoxNode}
use Rattle.lay_measure.specs.declared.preferred_widths.PreferredWidths.{PreferredWidths}
use Rattle.lay_grid.specs.declared.automatic.bounds.Bound.{Bound}
use Rattle.lay_table_grid.specs.TableGrid.{TableGridValue}
use Rattle.lay_widths.specs.FloatWidths.{available_of}
use Rattle.lay_widths.specs.Lengths.{edges_of}
use Rattle.lay_table_sizes.specs.AutoWidth.{IsAutoWidth}
use Rattle.lay_table_sizes.specs.CellBounds.{cell_maximum, cell_minimum}
use Rattle.lay_table_sizes.specs.ColumnBounds.{AreTableBounds}

abbrev pub OneListOfTableBounds : Type 0
OneListOfTableBounds = (boxes : List BoxNode) (inner : List PreferredWidths) (g : TableGridValue) (v w : List Bound)
    → AreTableBounds boxes inner g v → AreTableBounds boxes inner g w → v ≡ w

abbrev pub OneAutoWidth : Type 0
OneAutoWidth = (b : BlockIn) (least greatest captions v w : Length)
    → IsAutoWidth b least greatest captions v → IsAutoWidth b least greatest captions w → v ≡ w

-- a cell asks for no more at least than at most
abbrev pub CellBoundsHaveOrder : Type 0
CellBoundsHaveOrder = (borders : Sides) (s : Style) (content : PreferredWidths)
    → cell_minimum borders s content ≤ℤ cell_maximum borders s content

-- a table with room for its columns and its captions
pub record HasRoomInside (b : BlockIn) (least captions width : Length) : Type 0 where
  pub columns : least.0 ≤ℤ width.0
  pub captions_fit : (captions.0 -ℤ edges_of b) ≤ℤ width.0

abbrev pub AutoTablesHaveRoom : Type 0
AutoTablesHaveRoom = (b : BlockIn) (least greatest captions width : Length) → IsAutoWidth b least greatest captions width
    → HasRoomInside b least captions width

-- no bounds are set
pub record IsUnbounded (b : BlockIn) : Type 0 where
  pub min_width : b.min_width.0 ≡ pos 0
  pub max_width : b.max_width ≡ None

-- "the greater of W, CAPMIN, and the minimum width required by all the columns"
abbrev pub GivenWidthsAreGreatest : Type 0
GivenWidthsAreGreatest = (b : BlockIn) (given least greatest captions width : Length) → IsUnbounded b
    → b.width ≡ of given → IsUsedSize given.0
    → IsAutoWidth b least greatest captions width
    → width.0 ≡ int_max given.0 (int_max least.0 (captions.0 -ℤ edges_of b))

-- and where that is `auto` the lesser of the columns at their maximums and the room, but no less than the others
abbrev pub AutoWidthsFitTheRoom : Type 0
AutoWidthsFitTheRoom = (b : BlockIn) (least greatest captions width : Length) → IsUnbounded b → b.width ≡ auto → IsUsedSize least.0
    → IsUsedSize greatest.0 → least.0 ≤ℤ greatest.0 → IsAutoWidth b least greatest captions width
    → width.0 ≡ int_max (int_min greatest.0 (available_of b)) (int_max least.0 (captions.0 -ℤ edges_of b))
