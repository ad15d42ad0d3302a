-- Which boxes of a context hold lines and nothing else in flow (CSS 2.2, 9.2.1): "A block container box either contains only
-- block-level boxes or establishes an inline formatting context and thus contains only inline-level boxes." Floats and anchors
-- are in either.
use Rattle.std.specs.Prelude.{ℕ, zero, suc, ◌==◌, ◌&&◌, ◌||◌, not, Bool, true, false, List, length, nat_lt}
use Rattle.lay_box_tree.specs.declared.box_role.Role.{Role}
use Rattle.lay_box_tree.specs.declared.box_role.Role.TheVariants as role
use Rattle.lay_box_tree.specs.declared.box_tree.BoxNode.{BoxNode}
use Rattle.lay_box_tree.specs.Containers.{counts}
use Rattle.lay_box_tree.specs.Roles.{is_inline_level, role_at}
use Rattle.lay_flow_boxes.specs.declared.inline_containers.Level.{Level}
use Rattle.lay_flow_boxes.specs.declared.inline_containers.Level.TheVariants.{Block as block, Inline as inline}
use Rattle.lay_box_tree.specs.Containing.{container_of}
use Rattle.lay_box_tree.specs.ContextBoxes.{is_inner}

-- a block box, in which blocks or lines of the context stand
abbrev pub is_block_box : Role → Bool
is_block_box role.Own = true
is_block_box role.Block = true
is_block_box _ = false

-- a box in flow that isn't inline-level
abbrev pub is_beside_lines : Role → Bool
is_beside_lines role.Own = true
is_beside_lines role.Block = true
is_beside_lines role.Solid = true
is_beside_lines role.TablePart = true
is_beside_lines _ = false

-- a block container in which other boxes of the context stand
abbrev pub is_own_container : List BoxNode → ℕ → Bool
is_own_container boxes k = counts boxes k && not (is_inner boxes k)

abbrev pub is_of : Level → List BoxNode → ℕ → Bool
is_of block boxes k = is_beside_lines (role_at boxes k) || is_own_container boxes k
is_of inline boxes k = is_inline_level (role_at boxes k)

-- the box at k stands in the block container at c and is of this level
abbrev pub stands_in : Level → List BoxNode → ℕ → ℕ → Bool
stands_in level boxes c k = nat_lt 0 k && container_of boxes k == c && is_of level boxes k

-- one of the first n boxes is such a box
abbrev pub holds : Level → List BoxNode → (c n : ℕ) → Bool
holds level boxes c zero = false
holds level boxes c (suc k) = holds level boxes c k || stands_in level boxes c k

-- the box at c is a block box that contains inline-level boxes alone
abbrev pub is_inline_container : List BoxNode → ℕ → Bool
is_inline_container boxes c =
    is_block_box (role_at boxes c) && holds inline boxes c (length boxes) && not (holds block boxes c (length boxes))
