-- What the kind of a box says of it (9.2.1, 9.2.2, 17.4). Box generation reads the same off a box's form before the box
-- is listed, and KindLaws.antt of lay_boxgen says that both agree.
use Rattle.std.specs.Prelude.{Bool, true, false}
use Rattle.lay_box_tree.specs.declared.box_tree.BoxKind.{BoxKind}
use Rattle.lay_box_tree.specs.declared.box_tree.BoxKind.TheVariants.{Block, InlineBlock, Inline, Wrapper, InlineWrapper, Caption, Cell}

-- 9.2.1, a block container "contains only block-level boxes or establishes an inline formatting context". So do the
-- wrapper of a table, which is a block box, and that of an inline-table, an inline-block (17.4).
abbrev pub is_block_container_kind : BoxKind → Bool
is_block_container_kind Block = true
is_block_container_kind InlineBlock = true
is_block_container_kind (Cell colspan rowspan) = true
is_block_container_kind Caption = true
is_block_container_kind Wrapper = true
is_block_container_kind InlineWrapper = true
is_block_container_kind _ = false

-- the wrapper of a table or of an inline-table
abbrev pub is_wrapper : BoxKind → Bool
is_wrapper Wrapper = true
is_wrapper InlineWrapper = true
is_wrapper _ = false

abbrev pub is_inline : BoxKind → Bool
is_inline Inline = true
is_inline _ = false

abbrev pub is_caption_kind : BoxKind → Bool
is_caption_kind Caption = true
is_caption_kind _ = false

abbrev pub is_cell_kind : BoxKind → Bool
is_cell_kind (Cell colspan rowspan) = true
is_cell_kind _ = false
