-- What the placement of a table is given: the boxes of its formatting context, of which the first is the table's wrapper (CSS 2.2,
-- 17.4), with their used sizes; the structure of the table, and the used widths of its columns and cells; the boxes of the
-- formatting contexts inside it, those of captions and cells; and the pieces of the anonymous cells.
use Rattle.std.specs.Prelude.{◌≡◌, List, length}
use Rattle.lay_box_tree.specs.declared.box_tree.BoxNode.{BoxNode}
use Rattle.lay_frag.specs.declared.frag.Frag.{Frag}
use Rattle.lay_sizes.specs.declared.own_boxes.OwnBox.{OwnBox}
use Rattle.lay_sizes.specs.declared.sizing.BoxSizes.{BoxSizes}
use Rattle.lay_sizes.specs.OwnBoxes.{OwnBoxesFit}
use Rattle.lay_sizes.specs.SizeColumns.{HaveSizeBounds}
use Rattle.lay_box_tree.specs.ContextBoxes.{AreContextBoxes}
use Rattle.lay_table_grid.specs.GridBounds.{PlacesAreBelow}
use Rattle.lay_table_grid.specs.TableGrid.{TableGridValue}
use Rattle.lay_table_sizes.specs.TableSizesValue.{TableSizesValue}

pub record TableInput : Type 0 where
  pub boxes : List BoxNode
  pub sizes : List BoxSizes
  pub table : TableSizesValue
  pub inner : List OwnBox
  pub pieces : List (List Frag)

-- the structure of the table
abbrev pub grid_of : TableInput → TableGridValue
grid_of i = i.table.grid

pub record TableInputFits (i : TableInput) : Type 0 where
  pub boxes : AreContextBoxes i.boxes
  pub size_count : length i.sizes ≡ length i.boxes
  pub inner_count : length i.inner ≡ length i.boxes
  pub size_bounds : HaveSizeBounds i.sizes
  pub inner_bounds : OwnBoxesFit i.inner
  pub places : PlacesAreBelow (length i.boxes) (grid_of i)
