-- Used sizes are of the boxes that they are beside.
use Rattle.std.proofs.Common.{Bool, true, false, List, Option, None, Some}
use Rattle.lay_units.specs.declared.length.Unit.{Unit as Length}
use Rattle.lay_sizes.specs.declared.sizing.BoxSizes.{BoxSizes}
use Rattle.lay_table_grid.specs.GridLaws.{GridsAreOfBoxes}
use Rattle.lay_table_sizes.specs.TableSizesValue.{TableSizesValue}
use Rattle.lay_box_tree.specs.ContextBoxes.{AreContextBoxes}
use Rattle.lay_context_sizes.specs.ContextSizes.{SizedContext, HasSizes, IsSizedAs}
use Rattle.lay_context_sizes.specs.Inputs.{SizeInput}
use Rattle.lay_context.specs.Settling.{AreOfBoxes}
use Rattle.lay_context_sizes.specs.TableContexts.{is_table}

of_boxes_as : GridsAreOfBoxes → (b : Bool) (i : SizeInput) (sizes : List BoxSizes) (table : Option TableSizesValue) (left : Length) (stretched : Option Length) → AreContextBoxes i.boxes → IsSizedAs b i sizes table left
    → AreOfBoxes i.boxes (record { boxes = sizes; table = table; left = left; stretched = stretched })
of_boxes_as below true i sizes (Some table) left stretched are sized = record {
  count = sized.0.count;
  grid = below i.boxes table.grid are.some sized.0.grid;
}
of_boxes_as below true i sizes None left stretched are sized = absurd sized
of_boxes_as below false i sizes None left stretched are sized = record { count = sized.inside.count; grid = tt }
of_boxes_as below false i sizes (Some table) left stretched are sized = absurd sized

pub sizes_are_of_boxes : GridsAreOfBoxes → (i : SizeInput) (sized : SizedContext) → AreContextBoxes i.boxes → HasSizes i sized → AreOfBoxes i.boxes sized
sizes_are_of_boxes below i sized are has = of_boxes_as below (is_table i.boxes) i sized.boxes sized.table sized.left sized.stretched are has.boxes
