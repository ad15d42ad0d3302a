-- Which formatting contexts are tables (CSS 2.2, 17.4): those whose own box is the wrapper of one. In it stand the captions and the
-- table box, with the cells in that, and the boxes of both are laid out elsewhere. All others are laid out by block flow.
use Rattle.std.specs.Prelude.{Bool, false, List, slice_get, Option, None, Some}
use Rattle.lay_box_tree.specs.declared.box_tree.BoxNode.{BoxNode}
use Rattle.lay_box_tree.specs.Kinds.{is_wrapper}

abbrev pub is_table_wrapper : Option BoxNode → Bool
is_table_wrapper None = false
is_table_wrapper (Some b) = is_wrapper b.kind

-- the formatting context with these boxes is a table
abbrev pub is_table : List BoxNode → Bool
is_table boxes = is_table_wrapper (slice_get boxes 0)
