-- A column of left border edges that grows, from outer to inner boxes.
use Rattle.std.proofs.Common.{◌≡◌, ℕ, zero, suc, ◌+◌, ◌<◌, ◌≤◌, ℤ, ◌+ℤ◌, List, [], ◌∷◌, ◌++◌, length, refl, sym, ap, ◌∙◌, arith, inl, inr}
use Rattle.std.proofs.lemmas.Bool.{cases_lt}
use Rattle.std.proofs.lemmas.Grind.{elements}
use Rattle.lay_units.specs.declared.length.Unit.{Unit as Length}
use Rattle.lay_box_tree.specs.declared.box_tree.BoxNode.{BoxNode}
use Rattle.lay_flow.specs.Blocks.Lengths.{length_at}
use Rattle.lay_sizes.specs.declared.sizing.BoxSizes.{BoxSizes}
use Rattle.lay_sizes.specs.declared.own_boxes.OwnBox.{OwnBox}
use Rattle.lay_sizes.specs.SizeColumns.{sizes_at}
use Rattle.lay_box_tree.specs.Containing.{container_of}
use Rattle.lay_box_tree.specs.ContextBoxes.{AreContextBoxes}
use Rattle.lay_flow_boxes.specs.Outside.{outside}
use Rattle.lay_flow_boxes.proofs.Cited.{container_before}
use Rattle.lay_flow_boxes.specs.ContextBlocks.{left_of_box, HasLefts}
use Rattle.lay_flow_boxes.specs.NearLefts.{AreNearLefts, IsNearLeft}

-- the boxes before n have their left border edges
pub record LeftsTo (boxes : List BoxNode) (sizes : List BoxSizes) (inner : List OwnBox) (lefts : List Length) (n : ℕ) : Type 0 where
  pub count : length lefts ≡ n
  pub each : (k : ℕ) → k < n → length_at lefts k ≡ (left_of_box boxes sizes inner lefts k).0
  pub near : AreNearLefts lefts

pub read_before : (ls : List Length) (l : Length) (k : ℕ) → k < length ls → length_at (ls ++ l ∷ []) k ≡ length_at ls k
read_before ls l k lt = grind (arith, elements)

pub read_last : (ls : List Length) (l : Length) (k : ℕ) → k ≡ length ls → length_at (ls ++ l ∷ []) k ≡ l.0
read_last ls l k is = grind (arith, elements)

-- the left border edge of a box rests on those before it alone
pub left_before : (boxes : List BoxNode) (sizes : List BoxSizes) (inner : List OwnBox) (ls : List Length) (l : Length) (k : ℕ) → AreContextBoxes boxes → k < length boxes → k ≤ length ls
    → (left_of_box boxes sizes inner (ls ++ l ∷ []) k).0 ≡ (left_of_box boxes sizes inner ls k).0
left_before boxes sizes inner ls l zero are within known = refl
left_before boxes sizes inner ls l (suc k) are within known =
    let p : ℕ = container_of boxes (suc k) in
    let before = container_before boxes (suc k) are (omega arith) within in
    let same = read_before ls l p (omega (arith, before, known)) in
    ap (λ (v : ℤ). v +ℤ (sizes_at sizes p).edges.left.0 +ℤ (outside boxes sizes inner (suc k)).margin.left.0) same

-- with one more the boxes before n + 1 have their left border edges
pub one_more : (boxes : List BoxNode) (sizes : List BoxSizes) (inner : List OwnBox) (ls : List Length) (n : ℕ) (l : Length) → AreContextBoxes boxes → n < length boxes
    → LeftsTo boxes sizes inner ls n → l ≡ left_of_box boxes sizes inner ls n → IsNearLeft l.0 → LeftsTo boxes sizes inner (ls ++ l ∷ []) (n + 1)
one_more boxes sizes inner ls n l are within so_far is near =
    let counted : length (ls ++ l ∷ []) ≡ n + 1 = grind (arith, elements, so_far.count) in
    record {
      count = counted;
      each = λ k lt. elim (cases_lt k n) [
        | inl low ↦ read_before ls l k (omega (arith, so_far.count)) ∙ so_far.each k low ∙ sym (left_before boxes sizes inner ls l k are (omega arith) (omega (arith, so_far.count)))
        | inr high ↦ (let q : k ≡ n = omega arith in
            rw q (read_last ls l n (sym so_far.count) ∙ ap (λ (x : Length). x.0) is ∙ sym (left_before boxes sizes inner ls l n are within (omega (arith, so_far.count)))))
      ];
      near = λ k lt. elim (cases_lt k n) [
        | inl low ↦ (let r = read_before ls l k (omega (arith, low, so_far.count)) in rw r (so_far.near k (omega (arith, low, so_far.count))))
        | inr high ↦ (let r = read_last ls l k (omega (arith, high, lt, counted, so_far.count)) in rw r near)
      ];
    }

pub all_lefts : (boxes : List BoxNode) (sizes : List BoxSizes) (inner : List OwnBox) (ls : List Length) (n : ℕ) → n ≡ length boxes → LeftsTo boxes sizes inner ls n → HasLefts boxes sizes inner ls
all_lefts boxes sizes inner ls n e so_far = record { count = so_far.count ∙ e; each = λ k lt. so_far.each k (omega arith) }
