-- The boxes that can be the containing block of an absolutely positioned one (CSS 2.2, 10.1, case 4): "the nearest ancestor with
-- a 'position' of 'absolute', 'relative' or 'fixed'" that is a block container. The wrapper of a table is one. On cells, captions
-- and the other boxes in a table `position` has no effect, and an inline box is none.
use Rattle.std.specs.Prelude.{ℕ, zero, suc, ◌≡◌, ◌<◌, ◌&&◌, Bool, true, false, List, map, slice_index_or, Option, None, Some, if◌then◌else◌}
use Rattle.lay_style.specs.declared.style_words.Position.TheVariants as position
use Rattle.lay_style.specs.Positions.{is_positioned}
use Rattle.lay_box_tree.specs.declared.box_tree.BoxKind.{BoxKind}
use Rattle.lay_box_tree.specs.declared.box_tree.BoxKind.TheVariants.{Block, InlineBlock, Wrapper, InlineWrapper}
use Rattle.lay_box_tree.specs.declared.box_tree.BoxNode.{BoxNode}
use Rattle.lay_box_tree.specs.Containers.{box_parent}

abbrev pub can_hold : BoxKind → Bool
can_hold Block = true
can_hold InlineBlock = true
can_hold Wrapper = true
can_hold InlineWrapper = true
can_hold _ = false

abbrev pub is_holder : BoxNode → Bool
is_holder b = is_positioned b.style.position && can_hold b.kind

abbrev pub is_holder_at : List BoxNode → ℕ → Bool
is_holder_at boxes k = slice_index_or (map is_holder boxes) k false

-- the nearest such box around the one at k, among these boxes
pub data IsNearestHolder (boxes : List BoxNode) : ℕ → Option ℕ → Type 0 where
  none : IsNearestHolder boxes 0 None
  parent : (k : ℕ) → 0 < k → is_holder_at boxes (box_parent boxes k) ≡ true → IsNearestHolder boxes k (Some (box_parent boxes k))
  further : (k : ℕ) (holder : Option ℕ) → 0 < k → is_holder_at boxes (box_parent boxes k) ≡ false
      → IsNearestHolder boxes (box_parent boxes k) holder → IsNearestHolder boxes k holder

-- the one that counts for a box at k: for a fixed one none does (10.1, case 3)
abbrev pub IsHolderFor : (is_fixed : Bool) → List BoxNode → ℕ → Option ℕ → Type 0
IsHolderFor true boxes k holder = holder ≡ None
IsHolderFor false boxes k holder = IsNearestHolder boxes k holder

-- The value of `IsNearestHolder`, found outward in so many turns: there are no more boxes around one than stand before it. That it is
-- this is a part of the law `settings_are_values`.
abbrev pub nearest_in : (turns : ℕ) → List BoxNode → ℕ → Option ℕ
nearest_in zero boxes k = None
nearest_in (suc turns) boxes k =
    if is_holder_at boxes (box_parent boxes k) then Some (box_parent boxes k) else nearest_in turns boxes (box_parent boxes k)

-- and the value of `IsHolderFor`
abbrev pub holder_for : (is_fixed : Bool) → List BoxNode → ℕ → Option ℕ
holder_for true boxes k = None
holder_for false boxes k = nearest_in k boxes k
