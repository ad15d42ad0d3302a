-- A tree of boxes, read by the parent of each.
use Rattle.std.proofs.Common.{◌≡◌, ℕ, zero, suc, ◌<◌, ◌≤◌, List, [], ◌∷◌, length, slice_index, refl, sym, ap, ◌∙◌, arith}
use Rattle.lay_doc.specs.Tree.{IsTree}
use Rattle.lay_flow.specs.declared.blocks.flow_box.FlowBox.{FlowBox}
use Rattle.lay_flow.specs.Blocks.Boxes.{parent_at, parents_of}

pub parents_length : (boxes : List FlowBox) → length (parents_of boxes) ≡ length boxes
parents_length [] = refl
parents_length (b ∷ bs) = ap suc (parents_length bs)

pub parent_is : (boxes : List FlowBox) (k : ℕ) → slice_index (parents_of boxes) k ≡ parent_at boxes k
parent_is [] k = refl
parent_is (b ∷ bs) zero = refl
parent_is (b ∷ bs) (suc k) = parent_is bs k

pub parent_before : (boxes : List FlowBox) → IsTree (parents_of boxes) → (k : ℕ) → 0 < k → k < length boxes → parent_at boxes k < k
parent_before boxes tree k positive within =
    let less = tree.before k positive (omega (arith, within, parents_length boxes)) in omega (arith, less, parent_is boxes k)

pub root_parent : (boxes : List FlowBox) → IsTree (parents_of boxes) → parent_at boxes 0 ≡ 0
root_parent boxes tree = sym (parent_is boxes 0) ∙ tree.root

pub parents_together : (boxes : List FlowBox) → IsTree (parents_of boxes) → (j k : ℕ) → j < k → k < length boxes → parent_at boxes k < j → parent_at boxes k ≤ parent_at boxes j
parents_together boxes tree j k lt within low =
    let l = parents_length boxes in let p = parent_is boxes k in let q = parent_is boxes j in
    let le = tree.together j k lt (omega (arith, within, l)) (omega (arith, low, p)) in omega (arith, le, p, q)
