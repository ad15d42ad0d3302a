-- How high the content of a formatting context's own box is to be, before its content says how high that needs to be (CSS 2.2, 10.6
-- and 10.7). A cell is as high as its content here: "the height of a cell box is the minimum height required by the content" (17.5.3),
-- and its `height` acts on its row. An absolutely positioned box between `top` and `bottom` is stretched (10.6.4).
use Rattle.std.specs.Prelude.{List, slice_get, Option, None, Some}
use Rattle.lay_units.specs.declared.length.Unit.{Unit as Length}
use Rattle.lay_units.specs.declared.records.Len.TheVariants.{Auto as auto, Of as of}
use Rattle.lay_units.specs.Lengths.{no_length}
use Rattle.lay_box_tree.specs.declared.box_tree.BoxKind.{BoxKind}
use Rattle.lay_box_tree.specs.declared.box_tree.BoxKind.TheVariants as kind
use Rattle.lay_box_tree.specs.declared.box_tree.BoxNode.{BoxNode}
use Rattle.lay_flow.specs.declared.blocks.flow_box.HeightRule.{HeightRule}
use Rattle.lay_flow_boxes.specs.PlaceInputs.{height_rule_of}
use Rattle.lay_sizes.specs.declared.sizing.BoxSizes.{BoxSizes}
use Rattle.lay_sizes.specs.SizeColumns.{sizes_at}

abbrev pub height_of_content : HeightRule
height_of_content = record { given = auto; min = no_length; max = None }

abbrev pub height_rule_as : BoxKind → BoxSizes → HeightRule
height_rule_as (kind.Cell colspan rowspan) z = height_of_content
height_rule_as _ z = height_rule_of z

abbrev pub own_box_height_rule : Option BoxNode → BoxSizes → HeightRule
own_box_height_rule None z = height_rule_of z
own_box_height_rule (Some b) z = height_rule_as b.kind z

-- that of the own box among these boxes, which have these sizes; and of one that is stretched to a height
abbrev pub own_height_rule : List BoxNode → List BoxSizes → (stretched : Option Length) → HeightRule
own_height_rule boxes sizes None = own_box_height_rule (slice_get boxes 0) (sizes_at sizes 0)
own_height_rule boxes sizes (Some height) = record { given = of height; min = no_length; max = None }
