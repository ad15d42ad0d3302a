-- Each box that stands in the lines of a block container is an item of these lines, once, and no other box is (CSS 2.2, 9.2.2,
-- 9.4.2 and 9.5): an inline box begins and ends there, and a text, an atomic box, a float and an anchor is one item by itself.
use Rattle.std.specs.Prelude.{ℕ, ◌≡◌, ◌<◌, ◌==◌, Bool, true, false, All, List, [], ◌∷◌, length, if◌then◌else◌}
use Rattle.lay_box_tree.specs.declared.box_role.Role.{Role}
use Rattle.lay_box_tree.specs.declared.box_role.Role.TheVariants as role
use Rattle.lay_box_tree.specs.declared.box_tree.BoxNode.{BoxNode}
use Rattle.lay_box_tree.specs.Containers.{box_parent}
use Rattle.lay_box_tree.specs.Roles.{role_at}
use Rattle.lay_space.specs.declared.item.Item.{Item}
use Rattle.lay_space.specs.declared.item.Item.TheVariants as item
use Rattle.lay_box_tree.specs.Containing.{container_of}
use Rattle.lay_box_tree.specs.ContextBoxes.{AreContextBoxes}
use Rattle.lay_line_items.specs.InlineItems.{items_of}
use Rattle.lay_flow_boxes.specs.InlineContainers.{is_inline_container}

pub data Sort : Type 0 where
  text : Sort
  atomic : Sort
  start : Sort
  end : Sort
  float : Sort
  anchor : Sort

-- what an item is, and of which box
pub record Named : Type 0 where
  pub sort : Sort
  pub box : ℕ

abbrev pub named : Item → Named
named (item.Text k content mode widths) = record { sort = text; box = k }
named (item.Atomic k mode) = record { sort = atomic; box = k }
named (item.Start k takes) = record { sort = start; box = k }
named (item.End k) = record { sort = end; box = k }
named (item.Float k) = record { sort = float; box = k }
named (item.Anchor k) = record { sort = anchor; box = k }

-- what those of these items are that are of the box at k, in order
abbrev pub sorts_of : ℕ → List Item → List Sort
sorts_of k [] = []
sorts_of k (x ∷ xs) = if (named x).box == k then (named x).sort ∷ sorts_of k xs else sorts_of k xs

-- what a box of this role is in lines
pub data IsInLinesAs : Role → List Sort → Type 0 where
  as_inline : IsInLinesAs role.Inline (start ∷ end ∷ [])
  as_text : IsInLinesAs role.Text (text ∷ [])
  as_atomic : IsInLinesAs role.Atomic (atomic ∷ [])
  as_left_float : IsInLinesAs role.LeftFloat (float ∷ [])
  as_right_float : IsInLinesAs role.RightFloat (float ∷ [])
  as_anchor : IsInLinesAs role.Anchor (anchor ∷ [])

-- what is in such a box is in no list of boxes, or in that of another formatting context
abbrev pub holds_nothing : Role → Bool
holds_nothing role.Text = true
holds_nothing role.Atomic = true
holds_nothing role.LeftFloat = true
holds_nothing role.RightFloat = true
holds_nothing role.Anchor = true
holds_nothing _ = false

abbrev pub AreHeldByOthers : List BoxNode → Type 0
AreHeldByOthers boxes = (k : ℕ) → 0 < k → k < length boxes → holds_nothing (role_at boxes (box_parent boxes k)) ≡ false

-- the box at k stands in these lines
pub record IsInLines (boxes : List BoxNode) (c k : ℕ) : Type 0 where
  pub behind : 0 < k
  pub within : k < length boxes
  pub container : container_of boxes k ≡ c

abbrev pub BoxesInLinesAreItems : Type 0
BoxesInLinesAreItems = (boxes : List BoxNode) (c k : ℕ) → AreContextBoxes boxes → AreHeldByOthers boxes
    → is_inline_container boxes c ≡ true → IsInLines boxes c k → IsInLinesAs (role_at boxes k) (sorts_of k (items_of boxes c))

abbrev pub ItemsAreBoxesInLines : Type 0
ItemsAreBoxesInLines = (boxes : List BoxNode) (c : ℕ) → AreContextBoxes boxes → is_inline_container boxes c ≡ true
    → All (λ x. IsInLines boxes c (named x).box) (items_of boxes c)
