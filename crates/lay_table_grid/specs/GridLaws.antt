-- A list of boxes has one structure as a table, and there is one. Its boxes are some of the list's.
use Rattle.std.specs.Prelude.{◌≡◌, ◌<◌, List, length}
use Rattle.lay_box_tree.specs.declared.box_tree.BoxNode.{BoxNode}
use Rattle.lay_table_grid.specs.GridBounds.{PlacesAreBelow}
use Rattle.lay_table_grid.specs.TableGrid.{IsTableGrid, TableGridValue}

abbrev pub OneTableGrid : Type 0
OneTableGrid = (boxes : List BoxNode) (g h : TableGridValue) → IsTableGrid boxes g → IsTableGrid boxes h → g ≡ h

abbrev pub GridsAreOfBoxes : Type 0
GridsAreOfBoxes = (boxes : List BoxNode) (grid : TableGridValue)
    → 0 < length boxes → IsTableGrid boxes grid → PlacesAreBelow (length boxes) grid

abbrev pub SomeTableGrid : Type 0
SomeTableGrid = (boxes : List BoxNode) → (grid : TableGridValue) × IsTableGrid boxes grid
