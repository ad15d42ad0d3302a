-- In which setting the own box of a formatting context is sized, by where its box stands outside. Among boxes in flow its
-- containing block is its nearest block container (CSS 2.2, 10.1). In a table a cell has its width from the table's columns
-- (17.5.2), and its percentages refer to the table box; the containing block of a caption is the wrapper (17.4), whose height comes
-- of what is in it. An absolutely positioned one is given its containing block and its static position by those on the way out to it.
use Rattle.std.specs.Prelude.{ℕ, zero, suc, List, slice_index_or, Option, None, Some, if◌then◌else◌}
use Rattle.lay_units.specs.declared.records.Len.TheVariants.{Auto as auto}
use Rattle.lay_box_tree.specs.declared.box_tree.BoxNode.{BoxNode}
use Rattle.lay_sizes.specs.declared.sizing.BoxSizes.{BoxSizes}
use Rattle.lay_sizes.specs.declared.sizing.ContainingBlock.{ContainingBlock}
use Rattle.lay_sizes.specs.BoxSizes.{content_block}
use Rattle.lay_sizes.specs.SizeColumns.{sizes_at}
use Rattle.lay_table_sizes.specs.TableSizesValue.{TableSizesValue, cell_at}
use Rattle.lay_table_sizes.specs.declared.cell_size.CellSize.{CellSize}
use Rattle.lay_contexts.specs.FormattingContexts.{FormattingContext, formatting_context_at, boxes_in}
use Rattle.lay_placements.specs.ContainingBlocks.{block_around}
use Rattle.lay_positioned.specs.Absolute.{is_absolute}
use Rattle.lay_positioned.specs.Layouts.{Layout}
use Rattle.lay_positioned.specs.Settings.{absolute_setting}
use Rattle.lay_context_sizes.specs.ContextSizes.{SizedContext, not_sized}
use Rattle.lay_context.specs.PlacedContexts.{placed_in, placement_in}
use Rattle.lay_context.specs.Workings.{Workings}
use Rattle.lay_abspos.specs.declared.own_place.OwnPlace.{OwnPlace}
use Rattle.lay_abspos.specs.declared.own_place.OwnPlace.TheVariants as own_place
use Rattle.lay_context_sizes.specs.declared.setting.Setting.{Setting}
use Rattle.lay_context_sizes.specs.declared.setting.Setting.TheVariants.{Absolute, Block, Cell}

-- the wrapper of these sizes, as the containing block of its captions
abbrev pub caption_block : BoxSizes → ContainingBlock
caption_block wrapper = record { width = wrapper.widths.width; height = auto }

-- what the cell with the box at k is given, where that is a box of a table
abbrev pub cell_given : Option TableSizesValue → ℕ → Option CellSize
cell_given None k = None
cell_given (Some table) k = cell_at table k

-- the setting of a box in a table, where this is what a cell is given
abbrev pub setting_in_table : List BoxSizes → TableSizesValue → Option CellSize → Setting
setting_in_table sizes table (Some cell) = Cell (content_block (sizes_at sizes table.grid.table)) cell
setting_in_table sizes table None = Block (caption_block (sizes_at sizes 0))

-- The setting of the box at k among boxes of these sizes. Its containing block is that of the nearest block container, by the law
-- `containers_are_nearest`.
abbrev pub setting_as : List BoxNode → List BoxSizes → Option TableSizesValue → ℕ → Setting
setting_as boxes sizes None k = Block (block_around boxes sizes k)
setting_as boxes sizes (Some table) k = setting_in_table sizes table (cell_at table k)

abbrev pub setting_in : List BoxNode → SizedContext → ℕ → Setting
setting_in boxes sized k = setting_as boxes sized.boxes sized.table k

-- the sizes of the formatting context with this number
abbrev pub sizes_in : List SizedContext → ℕ → SizedContext
sizes_in sizes i = slice_index_or sizes i not_sized

-- what the formatting context with this number is given as a cell
abbrev pub given_cell_size : List FormattingContext → List SizedContext → ℕ → Option CellSize
given_cell_size contexts sizes zero = None
given_cell_size contexts sizes (suc i) =
    let c = formatting_context_at contexts (suc i) in
    cell_given (sizes_in sizes c.outer).table c.outer_box

-- the setting of the own box of the formatting context with this number, in flow or floating; that of the root's is the viewport
abbrev pub flow_setting : ContainingBlock → List FormattingContext → List SizedContext → ℕ → Setting
flow_setting viewport contexts sizes zero = Block viewport
flow_setting viewport contexts sizes (suc i) =
    let c = formatting_context_at contexts (suc i) in
    setting_in (boxes_in contexts c.outer) (sizes_in sizes c.outer) c.outer_box

-- what is known of the formatting contexts, by their numbers
abbrev pub laid : Workings → ℕ → Layout
laid w i = record {
  sizes = (sizes_in w.sizes i).boxes;
  standings = (placement_in w.places i).standings;
  offset = (placed_in w.places i).offset;
}

-- The setting of the own box of the formatting context with this number. Of an absolutely positioned one it is the only one that
-- `IsSetting` knows, by the law `settings_are_values`.
abbrev pub setting_of : ContainingBlock → List FormattingContext → Workings → ℕ → Setting
setting_of viewport contexts w i =
    if is_absolute contexts i then Absolute (absolute_setting viewport contexts (laid w) i)
    else flow_setting viewport contexts w.sizes i

-- what says where the formatting context with this number stands
abbrev pub flow_place : ContainingBlock → ℕ → OwnPlace
flow_place viewport zero = own_place.Root viewport
flow_place viewport (suc i) = own_place.Inner

abbrev pub own_place_of : ContainingBlock → List FormattingContext → Workings → ℕ → OwnPlace
own_place_of viewport contexts w i =
    if is_absolute contexts i then own_place.Absolute (absolute_setting viewport contexts (laid w) i)
    else flow_place viewport i
