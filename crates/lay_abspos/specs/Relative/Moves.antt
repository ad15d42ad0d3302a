-- By how much the boxes of one formatting context are moved from where they stand in it (CSS 2.2, 9.4.3): a relatively
-- positioned box by its own offset, and each with the box that it stands in. What is in an inline box before a block breaks
-- that is moved with it: "any resulting translation also affects the block-level box contained in the inline box" (9.2.1.1).
-- The own box isn't moved here: the formatting context around it does that. By themselves neither is an anchor, which stands
-- for what isn't in flow, nor a text, nor a part of a table, on which relative positioning has no effect.
use Rattle.std.specs.Prelude.{ℕ, zero, suc, ◌≡◌, ◌<◌, ◌+ℤ◌, Bool, true, false, List, length}
use Rattle.std.specs.Prelude.{replicate, slice_index_or, Option, None, if◌then◌else◌}
use Rattle.std.specs.Option.{unwrap_or}
use Rattle.lay_style.specs.ComputedStyle.{style_at}
use Rattle.lay_box_tree.specs.declared.box_role.Role.{Role}
use Rattle.lay_box_tree.specs.declared.box_role.Role.TheVariants as role
use Rattle.lay_box_tree.specs.declared.box_tree.BoxNode.{BoxNode}
use Rattle.lay_box_tree.specs.BoxColumns.{box_styles}
use Rattle.lay_box_tree.specs.Containers.{box_parent}
use Rattle.lay_box_tree.specs.Roles.{role_at}
use Rattle.lay_abspos.specs.Relative.FormerParents.{AreFormerParents}
use Rattle.lay_sizes.specs.declared.sizing.BoxSizes.{BoxSizes}
use Rattle.lay_placements.specs.ContainingBlocks.{block_around}
use Rattle.lay_abspos.specs.declared.relative.offset.Offset.{Offset}
use Rattle.lay_abspos.specs.Relative.RelativeOffsets.{is_relative, no_offset, relative_offset}

-- relative positioning acts on what has this role
abbrev pub is_movable : Role → Bool
is_movable role.Own = false
is_movable role.Anchor = false
is_movable role.TablePart = false
is_movable role.Text = false
is_movable _ = true

-- by how much the box at k is moved by itself
abbrev pub own_offset : List BoxNode → List BoxSizes → ℕ → Offset
own_offset boxes sizes k =
    if is_movable (role_at boxes k) then relative_offset (block_around boxes sizes k) (style_at (box_styles boxes) k)
    else no_offset

-- the box with which the box at k is moved, where these held boxes before those broke them
abbrev pub carrier : List BoxNode → List (Option ℕ) → ℕ → ℕ
carrier boxes formers k = unwrap_or (slice_index_or formers k None) (box_parent boxes k)

abbrev pub offset_sum : Offset → Offset → Offset
offset_sum a b = record {
  right = record { 0 = a.right.0 +ℤ b.right.0 };
  down = record { 0 = a.down.0 +ℤ b.down.0 };
}

abbrev pub move_at : List Offset → ℕ → Offset
move_at moves k = slice_index_or moves k no_offset

-- by how much the box at k is moved, where that is known of the boxes before it
abbrev pub move_of : List BoxNode → List BoxSizes → List (Option ℕ) → List Offset → ℕ → Offset
move_of boxes sizes formers moves zero = no_offset
move_of boxes sizes formers moves (suc k) = offset_sum (own_offset boxes sizes (suc k)) (move_at moves (carrier boxes formers (suc k)))

-- these are the moves of the boxes
pub record HasMoves (boxes : List BoxNode) (sizes : List BoxSizes) (moves : List Offset) : Type 0 where
  -- what held boxes before those broke it
  pub formers : List (Option ℕ)
  pub are_formers : AreFormerParents boxes formers
  pub count : length moves ≡ length boxes
  pub each : (k : ℕ) → k < length boxes → move_at moves k ≡ move_of boxes sizes formers moves k

-- no box is relatively positioned
abbrev pub NoneIsRelative : List BoxNode → Type 0
NoneIsRelative boxes = (k : ℕ) → k < length boxes → is_relative (style_at (box_styles boxes) k).position ≡ false

-- the moves of so many boxes, of which nothing is kept where none is moved
abbrev pub all_moves : ℕ → Option (List Offset) → List Offset
all_moves count kept = unwrap_or kept (replicate count no_offset)
