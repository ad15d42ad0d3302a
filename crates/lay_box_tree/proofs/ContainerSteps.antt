-- The nearest block container of a box is found among the boxes before it.
use Rattle.std.proofs.Common.{◌≡◌, ℕ, zero, suc, ◌<◌, ◌≤◌, ◌⊎◌, inl, inr, Bool, true, false, List, length, slice_index, refl, arith, if◌then◌else◌}
use Rattle.lay_doc.specs.Tree.{IsTree}
use Rattle.lay_box_tree.specs.declared.box_tree.BoxNode.{BoxNode}
use Rattle.lay_box_tree.specs.BoxColumns.{box_parents}
use Rattle.lay_box_tree.specs.Containers.{AreContainers, IsContainer, box_parent, counts, further as at_further, own as at_own, parent as at_parent}
use Rattle.lay_box_tree.proofs.BoxForests.{length-parents}
use Rattle.lay_box_tree.proofs.NearestContainers.{one_container}
use Rattle.lay_box_tree.specs.ContextBoxes.{AreContextBoxes}
use Rattle.lay_box_tree.specs.Containing.{ContainersAreNearest, container_in, container_of}

parent_before : (boxes : List BoxNode) (k : ℕ) → IsTree (box_parents boxes) → suc k < length boxes → box_parent boxes (suc k) < suc k
parent_before boxes k tree within = tree.before (suc k) (omega arith) (omega (arith, length-parents boxes))

by_parent : (boxes : List BoxNode) (turns k : ℕ) (b : Bool) → 0 < k → counts boxes (box_parent boxes k) ≡ b
    → IsContainer boxes (box_parent boxes k) (container_in turns boxes (box_parent boxes k))
    → IsContainer boxes k (if b then box_parent boxes k else container_in turns boxes (box_parent boxes k))
by_parent boxes turns k true positive is nearest = at_parent k positive is
by_parent boxes turns k false positive is nearest = at_further k (container_in turns boxes (box_parent boxes k)) positive is nearest

own_own : (boxes : List BoxNode) (turns p : ℕ) → p ≡ 0 → IsContainer boxes 0 (if counts boxes p then p else container_in turns boxes p)
own_own boxes turns zero is = at_own
own_own boxes turns (suc p) is = absurd (omega arith)

nearest_in : (boxes : List BoxNode) (turns k : ℕ) → IsTree (box_parents boxes) → k ≤ turns → k < length boxes → IsContainer boxes k (container_in turns boxes k)
nearest_in boxes zero zero tree enough within = at_own
nearest_in boxes zero (suc k) tree enough within = absurd (omega arith)
nearest_in boxes (suc turns) zero tree enough within = own_own boxes turns (box_parent boxes 0) tree.root
nearest_in boxes (suc turns) (suc k) tree enough within =
    let before = parent_before boxes k tree within in
    by_parent boxes turns (suc k) (counts boxes (box_parent boxes (suc k))) (omega arith) refl (nearest_in boxes turns (box_parent boxes (suc k)) tree (omega arith) (omega arith))

pub containers_are_nearest_lem : ContainersAreNearest
containers_are_nearest_lem boxes k are within = nearest_in boxes k k are.tree (omega arith) within

-- what is kept of containers is what the definition finds
pub container_is : (boxes : List BoxNode) (containers : List ℕ) (k : ℕ) → AreContextBoxes boxes → AreContainers boxes containers → k < length boxes → slice_index containers k ≡ container_of boxes k
container_is boxes containers k are found within =
    one_container boxes k (slice_index containers k) (container_of boxes k) (found.each k within) (containers_are_nearest_lem boxes k are within)

pub some_before : (boxes : List BoxNode) (p : ℕ) → counts boxes p ≡ false → 0 < p
some_before boxes zero is = absurd cc
some_before boxes (suc p) is = omega arith

before_by : (boxes : List BoxNode) (turns k p : ℕ) (b : Bool) → counts boxes p ≡ b → p < k → (p ≡ 0) ⊎ (container_in turns boxes p < p) → (if b then p else container_in turns boxes p) < k
before_by boxes turns k p true is before further = before
before_by boxes turns k p false is before further =
    let some = some_before boxes p is in
    elim further [
      | inl none ↦ absurd (omega (arith, some, none))
      | inr less ↦ omega (arith, less, before)
    ]

before_in : (boxes : List BoxNode) (turns k : ℕ) → IsTree (box_parents boxes) → k ≤ turns → k < length boxes → (k ≡ 0) ⊎ (container_in turns boxes k < k)
before_in boxes turns zero tree enough within = inl refl
before_in boxes zero (suc k) tree enough within = absurd (omega arith)
before_in boxes (suc turns) (suc k) tree enough within =
    let before = parent_before boxes k tree within in
    let p : ℕ = box_parent boxes (suc k) in
    inr (before_by boxes turns (suc k) p (counts boxes p) refl before (before_in boxes turns p tree (omega arith) (omega arith)))

-- it stands before the box
pub container_before : (boxes : List BoxNode) (k : ℕ) → AreContextBoxes boxes → 0 < k → k < length boxes → container_of boxes k < k
container_before boxes k are positive within =
    elim (before_in boxes k k are.tree (omega arith) within) [
      | inl none ↦ absurd (omega (arith, positive, none))
      | inr less ↦ less
    ]

pub container_within : (boxes : List BoxNode) (k : ℕ) → AreContextBoxes boxes → k < length boxes → container_of boxes k < length boxes
container_within boxes zero are within = within
container_within boxes (suc k) are within = let h = container_before boxes (suc k) are (omega arith) within in omega arith
