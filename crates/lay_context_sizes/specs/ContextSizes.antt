-- What a formatting context answers of sizes: the used sizes of its boxes (CSS 2.2, 10.2 to 10.7), and of a table also its grid, the
-- widths of its columns and what its cells are given (17.5.2). Of an absolutely positioned one it also answers where it stands across
-- (10.3.7), and its height where that is between `top` and `bottom` (10.6.4).
use Rattle.std.specs.Prelude.{◌≡◌, Bool, true, false, List, [], Option, None, Some, IfSome}
use Rattle.lay_units.specs.Units.{IsUsedSize}
use Rattle.lay_units.specs.declared.length.Unit.{Unit as Length}
use Rattle.lay_units.specs.Lengths.{no_length}
use Rattle.lay_box_tree.specs.declared.box_tree.BoxNode.{BoxNode}
use Rattle.lay_box_tree.specs.declared.box_tree.BoxKind.{BoxKind}
use Rattle.lay_box_tree.specs.declared.box_tree.BoxKind.TheVariants as kind
use Rattle.lay_box_tree.specs.declared.box_tree.Flow.{Flow}
use Rattle.lay_box_tree.specs.declared.box_tree.Flow.TheVariants.{InFlow}
use Rattle.lay_sizes.specs.SizeColumns.{sizes_at}
use Rattle.lay_sizes.specs.declared.sizing.BoxSizes.{BoxSizes}
use Rattle.lay_table_sizes.specs.TableSizes.{HasTableSizes}
use Rattle.lay_table_sizes.specs.TableSizesValue.{TableSizesValue}
use Rattle.lay_table_sizes.specs.declared.table_rule.TableRule.{TableRule}
use Rattle.lay_table_sizes.specs.declared.table_rule.TableRule.TheVariants as rule
use Rattle.lay_box_tree.specs.BoxColumns.{box_at}
use Rattle.lay_abspos.specs.AbsoluteSizes.{IsStretchedHeight}
use Rattle.lay_abspos.specs.AbsoluteTables.{IsTableLeft}
use Rattle.lay_context_sizes.specs.FlowSizes.{HasFlowSizes}
use Rattle.lay_context_sizes.specs.Inputs.{SizeInput, containing_block_in}
use Rattle.lay_context_sizes.specs.TableContexts.{is_table}
use Rattle.lay_context_sizes.specs.declared.setting.Setting.{Setting}
use Rattle.lay_context_sizes.specs.declared.setting.Setting.TheVariants.{Absolute, Block, Cell}

pub record SizedContext : Type 0 where
  pub boxes : List BoxSizes
  -- of a table
  pub table : Option TableSizesValue
  -- of an absolutely positioned one: how far its left border edge is from that of its containing block, and the height of its content
  -- where it is stretched
  pub left : Length
  pub stretched : Option Length

abbrev pub not_sized : SizedContext
not_sized = record { boxes = []; table = None; left = no_length; stretched = None }

-- The margins of a block-level table in flow are those of a block (10.3.3). Of what floats, is inline-level or absolutely positioned
-- auto ones are 0 (10.3.5, 10.3.9, 10.3.7).
abbrev pub table_rule_as : Flow → BoxKind → TableRule
table_rule_as InFlow kind.Wrapper = rule.Block
table_rule_as _ _ = rule.ShrinkToFit

abbrev pub table_rule : List BoxNode → TableRule
table_rule boxes = table_rule_as (box_at boxes 0).flow (box_at boxes 0).kind

abbrev pub IsTableSized : SizeInput → List BoxSizes → TableSizesValue → Type 0
IsTableSized i sizes table =
    HasTableSizes (containing_block_in i.setting) (table_rule i.boxes) i.measured.table i.boxes sizes table

-- where the wrapper of a table stands across, which has these sizes
abbrev pub IsWrapperLeft : Setting → BoxNode → BoxSizes → (left : Length) → Type 0
IsWrapperLeft (Absolute s) own z left = IsTableLeft s own.style z.widths.width left
IsWrapperLeft (Block containing) own z left = left ≡ no_length
IsWrapperLeft (Cell containing cell) own z left = left ≡ no_length

abbrev pub IsSizedAs : (is_table : Bool) → SizeInput → List BoxSizes → Option TableSizesValue → (left : Length) → Type 0
IsSizedAs true i sizes (Some table) left = IsTableSized i sizes table × IsWrapperLeft i.setting (box_at i.boxes 0) (sizes_at sizes 0) left
IsSizedAs true i sizes None left = ⊥
IsSizedAs false i sizes None left = HasFlowSizes i sizes left
IsSizedAs false i sizes (Some table) left = ⊥

-- the height of the content of the own box, where it is stretched
abbrev pub IsStretchedIn : Setting → BoxNode → Option Length → Type 0
IsStretchedIn (Absolute s) own height = IsStretchedHeight s own height
IsStretchedIn (Block containing) own height = height ≡ None
IsStretchedIn (Cell containing cell) own height = height ≡ None

-- these are the sizes of a formatting context that is given this
pub record HasSizes (i : SizeInput) (sized : SizedContext) : Type 0 where
  pub boxes : IsSizedAs (is_table i.boxes) i sized.boxes sized.table sized.left
  pub stretched : IsStretchedIn i.setting (box_at i.boxes 0) sized.stretched

-- the height of a content that is stretched is a used size
abbrev pub IsStretchedSize : Option Length → Type 0
IsStretchedSize height = IfSome height (λ h. IsUsedSize h.0)
