-- The boxes of the formatting context of a root (CSS 2.2, 9.4.1): the root as its own box, and behind it in the order of the
-- context all boxes that are at home there. A root among these is a leaf, marked as the box of an inner formatting context:
-- what is in it belongs to that. So a root stands in two lists, and another box in one.
use Rattle.lay_box_tree.specs.BoxColumns.{box_at}
use Rattle.std.specs.Prelude.{ℕ, zero, suc, ◌+◌, ◌==◌, ◌||◌, Bool, false, List, ◌∷◌}
use Rattle.std.specs.Prelude.{length, map, slice_index, if◌then◌else◌}
use Rattle.std.specs.List.{filter, range_with_len}
use Rattle.lay_box_tree.specs.declared.box_tree.BoxNode.{BoxNode}
use Rattle.lay_contexts.specs.Homes.{is_root}

-- the box at k is at home in the root r
abbrev pub is_at_home : List ℕ → (r k : ℕ) → Bool
is_at_home homes r zero = false
is_at_home homes r (suc k) = slice_index homes (suc k) == r

-- the places before n of the boxes that are
abbrev pub at_home_before : List ℕ → (r n : ℕ) → List ℕ
at_home_before homes r n = filter (is_at_home homes r) (range_with_len 0 n)

-- the place of a box in the list of its home: behind the root and those at home there that stand before it
abbrev pub rank : List ℕ → ℕ → ℕ
rank homes zero = 0
rank homes (suc k) = 1 + length (at_home_before homes (slice_index homes (suc k)) (suc k))

-- the place there of the parent of a box whose parent in the context is the box at p
abbrev pub place_inside : List BoxNode → List ℕ → ℕ → ℕ
place_inside boxes homes p = if is_root boxes p then 0 else rank homes p

abbrev pub placed_box : BoxNode → ℕ → Bool → BoxNode
placed_box b parent inner = record b { parent = parent; inner = inner }

-- a root in its own list
abbrev pub as_own : BoxNode → BoxNode
as_own b = placed_box b 0 false

-- the box at k in the list of its home
abbrev pub as_member : List BoxNode → List ℕ → ℕ → BoxNode
as_member boxes homes k =
    placed_box (box_at boxes k) (place_inside boxes homes (box_at boxes k).parent) ((box_at boxes k).inner || is_root boxes k)

abbrev pub boxes_of_root : List BoxNode → List ℕ → ℕ → List BoxNode
boxes_of_root boxes homes r = as_own (box_at boxes r) ∷ map (as_member boxes homes) (at_home_before homes r (length boxes))
