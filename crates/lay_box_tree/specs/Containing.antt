-- The nearest block container of a box in a context (CSS 2.2, 10.1): its content box is the containing block of the box.
use Rattle.std.specs.Prelude.{ℕ, zero, suc, ◌<◌, Bool, false, List, length, map, slice_index_or, if◌then◌else◌}
use Rattle.lay_box_tree.specs.declared.box_tree.BoxNode.{BoxNode}
use Rattle.lay_box_tree.specs.Containers.{IsContainer, box_parent, counts}
use Rattle.lay_box_tree.specs.ContextBoxes.{AreContextBoxes}

-- the nearest block container of the box at k, which is found in so many turns: there are no more boxes around one than stand
-- before it
abbrev pub container_in : (turns : ℕ) → List BoxNode → ℕ → ℕ
container_in zero boxes k = 0
container_in (suc turns) boxes k =
    if counts boxes (box_parent boxes k) then box_parent boxes k else container_in turns boxes (box_parent boxes k)

abbrev pub container_of : List BoxNode → ℕ → ℕ
container_of boxes k = container_in k boxes k

abbrev pub is_anonymous : List BoxNode → ℕ → Bool
is_anonymous boxes k = slice_index_or (map (λ b. b.anonymous) boxes) k false

-- this is the nearest block container of 10.1
abbrev pub ContainersAreNearest : Type 0
ContainersAreNearest = (boxes : List BoxNode) (k : ℕ) → AreContextBoxes boxes → k < length boxes
    → IsContainer boxes k (container_of boxes k)
