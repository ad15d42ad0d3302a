-- Where borders collapse, a cell has one set of borders by the slots that it covers, and the table box has one.
use Rattle.std.specs.Prelude.{◌≡◌}
use Rattle.lay_units.specs.declared.records.Sides.{Sides}
use Rattle.lay_table_grid.specs.TableParts.{TableParts}
use Rattle.lay_table_grid.specs.declared.cell_area.CellArea.{CellArea}
use Rattle.lay_table_grid.specs.TableBorders.{AreCellBorders, AreTableBorders}

abbrev pub OneCellBorders : Type 0
OneCellBorders = (p : TableParts) (a : CellArea) (v w : Sides) → AreCellBorders p a v → AreCellBorders p a w → v ≡ w

abbrev pub OneTableBorders : Type 0
OneTableBorders = (p : TableParts) (v w : Sides) → AreTableBorders p v → AreTableBorders p w → v ≡ w
