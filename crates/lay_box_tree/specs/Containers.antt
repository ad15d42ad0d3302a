-- The nearest block container of a box (10.1: "the containing block is formed by the content edge of the nearest block
-- container ancestor box"). Inline boxes between count for nothing. Where no other is nearer it is the context's own
-- box, which counts as its own.
use Rattle.std.specs.Prelude.{ℕ, zero, ◌≡◌, ◌<◌, Bool, true, false, List, length, map, slice_index, slice_index_or}
use Rattle.lay_doc.specs.Tree.{IsTree}
use Rattle.lay_box_tree.specs.BoxColumns.{box_parents}
use Rattle.lay_box_tree.specs.Kinds.{is_block_container_kind}
use Rattle.lay_box_tree.specs.declared.box_tree.BoxNode.{BoxNode}

-- what counts, of each box: block containers, and the own box
abbrev pub box_containers : List BoxNode → List Bool
box_containers boxes = map (λ b. is_block_container_kind b.kind) boxes

abbrev pub counts : List BoxNode → ℕ → Bool
counts boxes zero = true
counts boxes k = slice_index_or (box_containers boxes) k false

abbrev pub box_parent : List BoxNode → ℕ → ℕ
box_parent boxes k = slice_index (box_parents boxes) k

-- the box at c is the nearest block container of the box at k
pub data IsContainer (boxes : List BoxNode) : ℕ → ℕ → Type 0 where
  own : IsContainer boxes 0 0
  parent : (k : ℕ) → 0 < k → counts boxes (box_parent boxes k) ≡ true → IsContainer boxes k (box_parent boxes k)
  further : (k c : ℕ) → 0 < k → counts boxes (box_parent boxes k) ≡ false → IsContainer boxes (box_parent boxes k) c → IsContainer boxes k c

-- the nearest block container of each box
pub record AreContainers (boxes : List BoxNode) (containers : List ℕ) : Type 0 where
  pub count : length containers ≡ length boxes
  pub each : (k : ℕ) → k < length boxes → IsContainer boxes k (slice_index containers k)

-- a box has one at most
abbrev pub OneContainer : Type 0
OneContainer = (boxes : List BoxNode) (k b c : ℕ) → IsContainer boxes k b → IsContainer boxes k c → b ≡ c

-- With the nearest block containers for parents the boxes are a tree again.
abbrev pub ContainersAreATree : Type 0
ContainersAreATree = (boxes : List BoxNode) (containers : List ℕ) → IsTree (box_parents boxes)
    → AreContainers boxes containers → IsTree containers
