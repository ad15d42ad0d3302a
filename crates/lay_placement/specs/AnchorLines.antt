-- What is kept of anchors on lines while they are looked for: the top of the line that has each, if it was found.
use Rattle.std.specs.Prelude.{ℕ, ◌≡◌, ◌≢◌, ◌<◌, ◌==◌, ◌&&◌, nat_lt, Bool, true, false, List}
use Rattle.std.specs.Prelude.{length, slice_index_or, Option, Some, None, if◌then◌else◌}
use Rattle.std.specs.List.{list_any}
use Rattle.std.specs.Option.{is_none, option_or}
use Rattle.lay_units.specs.declared.length.Unit.{Unit as Length}
use Rattle.lay_space.specs.declared.item.Item.{Item}
use Rattle.lay_space.specs.declared.segment.Segment.{Segment}
use Rattle.lay_box_tree.specs.declared.box_tree.BoxKind.{BoxKind}
use Rattle.lay_box_tree.specs.declared.box_tree.BoxKind.TheVariants as kind
use Rattle.lay_box_tree.specs.declared.box_tree.BoxNode.{BoxNode}
use Rattle.lay_box_tree.specs.Containing.{container_of}
use Rattle.lay_placement.specs.StaticPositions.{holds_anchor, is_anchor_of}

-- no box of another kind is an anchor
abbrev pub is_anchor_kind : BoxKind → Bool
is_anchor_kind kind.Anchor = true
is_anchor_kind _ = false

abbrev pub top_at : List (Option Length) → ℕ → Option Length
top_at tops k = slice_index_or tops k None

-- the top of a line with these segments, or items, where it has the anchor of the box at k
abbrev pub top_in_line : List Segment → Length → ℕ → Option Length
top_in_line segments top k = if list_any (holds_anchor k) segments then Some top else None

abbrev pub top_in_segment : List Item → Length → ℕ → Option Length
top_in_segment items top k = if list_any (is_anchor_of k) items then Some top else None

abbrev pub top_of_item : Item → Length → ℕ → Option Length
top_of_item item top k = if is_anchor_of k item then Some top else None

-- the box at k is in the container at c and has no top yet, if there is one
abbrev pub lacks_top : List BoxNode → ℕ → List (Option Length) → ℕ → Bool
lacks_top boxes c tops k = container_of boxes k == c && is_none (top_at tops k)

abbrev pub is_open_top : List BoxNode → ℕ → List (Option Length) → ℕ → Bool
is_open_top boxes c tops k = nat_lt k (length tops) && lacks_top boxes c tops k

-- the boxes in the container at c have got these, where they had none, and no other box has got any
pub record ArePut (boxes : List BoxNode) (c : ℕ) (before after : List (Option Length)) (found : ℕ → Option Length) : Type 0 where
  pub count : length after ≡ length before
  pub here : (k : ℕ) → k < length before → container_of boxes k ≡ c → top_at after k ≡ option_or (top_at before k) (found k)
  pub others : (k : ℕ) → k < length before → container_of boxes k ≢ c → top_at after k ≡ top_at before k
