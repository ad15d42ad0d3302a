-- First and last parts of inline boxes. 9.2.1.1: a block breaks an inline box "into two boxes (even if either side is
-- empty), one on each side of the block-level box(es)". All of them are boxes of the one element, and stand in the list
-- in order. 8.6: "the left-most generated box of the first line box in which the element appears has the left margin,
-- left border and left padding", and its last one the right ones; 9.4.2: they "have no visual effect where the split
-- occurs". So the left edges stand on the first part and the right ones on the last.
--
-- In `inline ("a" block1 "b" block2)` the parts are `inline ("a")`, `inline ("b")` and `inline ()`: the first of them is
-- the first part, and the empty one the last. An inline box without a block in it is both. Texts and anonymous boxes that
-- name the same element are no inline boxes by their kind.
use Rattle.std.specs.Prelude.{ℕ, ◌≡◌, ◌<◌, ◌+◌, ◌==◌, Bool, false, ◌&&◌, not, List, length, map, take, drop, slice_index, slice_index_or}
use Rattle.std.specs.List.{list_any}
use Rattle.lay_box_tree.specs.BoxColumns.{box_ids}
use Rattle.lay_box_tree.specs.Kinds.{is_inline}
use Rattle.lay_box_tree.specs.declared.box_tree.BoxNode.{BoxNode}
use Rattle.lay_box_tree.specs.declared.inline_part.InlinePart.{InlinePart}

-- the box is a part of the inline box of the element with this id
abbrev pub is_part_of : ℕ → BoxNode → Bool
is_part_of id b = is_inline b.kind && (b.node.0 == id)

abbrev pub is_part_at : List BoxNode → (id k : ℕ) → Bool
is_part_at boxes id k = slice_index_or (map (is_part_of id) boxes) k false

-- the id of the node of the box at k
abbrev pub id_at : List BoxNode → ℕ → ℕ
id_at boxes k = slice_index (box_ids boxes) k

-- the box at k is a part of an inline box, its own element's
abbrev pub is_inline_at : List BoxNode → ℕ → Bool
is_inline_at boxes k = is_part_at boxes (id_at boxes k) k

-- the box at k is one, and no box before it is another part of the same
abbrev pub is_first_part : List BoxNode → ℕ → Bool
is_first_part boxes k = is_inline_at boxes k && not (list_any (is_part_of (id_at boxes k)) (take k boxes))

-- and no box behind it is
abbrev pub is_last_part : List BoxNode → ℕ → Bool
is_last_part boxes k = is_inline_at boxes k && not (list_any (is_part_of (id_at boxes k)) (drop (k + 1) boxes))

abbrev pub inline_part : List BoxNode → ℕ → InlinePart
inline_part boxes k = record { first = is_first_part boxes k; last = is_last_part boxes k }

abbrev pub no_part : InlinePart
no_part = record { first = false; last = false }

-- which part of an inline box each box is
pub record AreInlineParts (boxes : List BoxNode) (parts : List InlinePart) : Type 0 where
  pub count : length parts ≡ length boxes
  pub each : (k : ℕ) → k < length boxes → slice_index_or parts k no_part ≡ inline_part boxes k
