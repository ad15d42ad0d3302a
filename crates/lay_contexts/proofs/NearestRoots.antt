-- The home of a box is the nearest root above it, and the only one.
use Rattle.std.proofs.Common.{◌≡◌, ℕ, zero, suc, ◌+◌, ◌<◌, true, false, List, [], ◌∷◌, ◌++◌, length, slice_index, refl, sym, arith, inl, inr}
use Rattle.std.proofs.lemmas.Bool.{cases_lt, both_ways}
use Rattle.std.proofs.lemmas.Grind.{elements}
use Rattle.lay_doc.specs.Tree.{IsTree}
use Rattle.lay_box_tree.specs.BoxColumns.{box_parents}
use Rattle.lay_box_tree.specs.Containers.{box_parent}
use Rattle.lay_box_tree.specs.declared.box_tree.BoxNode.{BoxNode}
use Rattle.lay_box_tree.proofs.BoxForests.{length-parents}
use Rattle.lay_contexts.specs.Homes.{IsHome, OneHome, further, is_root, own, parent}

pub one_home_lem : OneHome
one_home_lem boxes k g h own own = refl
one_home_lem boxes k g h own (parent j positive e) = absurd (omega (arith, positive))
one_home_lem boxes k g h own (further j d positive e up) = absurd (omega (arith, positive))
one_home_lem boxes k g h (parent j positive e) own = absurd (omega (arith, positive))
one_home_lem boxes k g h (parent j positive e) (parent i positive-2 e-2) = refl
one_home_lem boxes k g h (parent j positive e) (further i d positive-2 e-2 up) = absurd (both_ways (is_root boxes (box_parent boxes j)) e-2 e)
one_home_lem boxes k g h (further j d positive e up) own = absurd (omega (arith, positive))
one_home_lem boxes k g h (further j d positive e up) (parent i positive-2 e-2) = absurd (both_ways (is_root boxes (box_parent boxes j)) e e-2)
one_home_lem boxes k g h (further j d positive e up) (further i d-2 positive-2 e-2 up-2) = one_home_lem boxes (box_parent boxes j) d d-2 up up-2

-- the homes of the boxes before n
pub record HomesTo (boxes : List BoxNode) (homes : List ℕ) (n : ℕ) : Type 0 where
  pub count : length homes ≡ n
  pub each : (k : ℕ) → k < n → IsHome boxes k (slice_index homes k)

read_before : (hs : List ℕ) (h k : ℕ) → k < length hs → slice_index (hs ++ h ∷ []) k ≡ slice_index hs k
read_before hs h k lt = grind (arith, elements)

read_last : (hs : List ℕ) (h k : ℕ) → k ≡ length hs → slice_index (hs ++ h ∷ []) k ≡ h
read_last hs h k e = grind (arith, elements)

pub one_more : (boxes : List BoxNode) (hs : List ℕ) (n h : ℕ) → HomesTo boxes hs n → IsHome boxes n h → HomesTo boxes (hs ++ h ∷ []) (n + 1)
one_more boxes hs n h so_far is = record {
  count = grind (arith, elements, so_far.count);
  each = λ k lt. elim (cases_lt k n) [
    | inl low ↦ (let e = read_before hs h k (omega (arith, so_far.count)) in rw e (so_far.each k low))
    | inr high ↦ (let q : k ≡ n = omega arith in let e = read_last hs h n (sym so_far.count) in rw (q, e) is)
  ];
}

-- a box is at home in its parent where that is a root, and else where its parent is, which stands before it
pub own_or_parent : (boxes : List BoxNode) → IsTree (box_parents boxes) → (k : ℕ) → is_root boxes (box_parent boxes k) ≡ true → IsHome boxes k (box_parent boxes k)
own_or_parent boxes tree zero e = let r : box_parent boxes 0 ≡ 0 = tree.root in rw r own
own_or_parent boxes tree (suc k) e = parent (suc k) (omega arith) e

own_is_root : (boxes : List BoxNode) → IsTree (box_parents boxes) → is_root boxes (box_parent boxes 0) ≡ true
own_is_root boxes tree = let r : box_parent boxes 0 ≡ 0 = tree.root in rw r refl

pub parent_before : (boxes : List BoxNode) → IsTree (box_parents boxes) → (n : ℕ) → n < length boxes → is_root boxes (box_parent boxes n) ≡ false → (0 < n) × (box_parent boxes n < n)
parent_before boxes tree zero within e = absurd (both_ways (is_root boxes (box_parent boxes 0)) e (own_is_root boxes tree))
parent_before boxes tree (suc n) within e = (omega arith, tree.before (suc n) (omega arith) (omega (arith, length-parents boxes)))

-- a home is a root
pub home_is_root : (boxes : List BoxNode) (k h : ℕ) → IsHome boxes k h → is_root boxes h ≡ true
home_is_root boxes k h own = refl
home_is_root boxes k h (parent j above e) = e
home_is_root boxes k h (further j d above e up) = home_is_root boxes (box_parent boxes j) d up

-- and stands before the box, but for the own one
positive_or_root : (boxes : List BoxNode) (p : ℕ) → is_root boxes p ≡ false → 0 < p
positive_or_root boxes zero e = absurd cc
positive_or_root boxes (suc p) e = omega arith

pub not_own : (boxes : List BoxNode) (p : ℕ) → is_root boxes p ≡ false → 0 < p
not_own boxes p e = positive_or_root boxes p e

module _ (boxes : List BoxNode) (tree : IsTree (box_parents boxes)) where
  pub parent_low : (k : ℕ) → 0 < k → k < length boxes → box_parent boxes k < k
  parent_low k positive within = tree.before k positive (omega (arith, length-parents boxes))

  pub home_before : (k h : ℕ) → k < length boxes → IsHome boxes k h → 0 < k → h < k
  home_before k h within own positive = absurd (omega (arith, positive))
  home_before k h within (parent j above e) positive = parent_low j above within
  home_before k h within (further j d above e up) positive =
      let b = parent_low j above within in
      let g = home_before (box_parent boxes j) d (omega (arith, b, within)) up (positive_or_root boxes (box_parent boxes j) e) in
      omega (arith, b, g)

  pub home_within : (k h : ℕ) → k < length boxes → IsHome boxes k h → h < length boxes
  home_within zero h within own = within
  home_within zero h within (parent j above e) = absurd (omega (arith, above))
  home_within zero h within (further j d above e up) = absurd (omega (arith, above))
  home_within (suc k) h within is = (let b = home_before (suc k) h within is (omega arith) in omega (arith, b, within))

-- a box whose parent is no root has its home
pub same_home : (boxes : List BoxNode) (k h g : ℕ) → 0 < k → is_root boxes (box_parent boxes k) ≡ false → IsHome boxes k h → IsHome boxes (box_parent boxes k) g → h ≡ g
same_home boxes k h g positive e is up = one_home_lem boxes k h g is (further k g positive e up)

pub root_home : (boxes : List BoxNode) (k h : ℕ) → 0 < k → is_root boxes (box_parent boxes k) ≡ true → IsHome boxes k h → h ≡ box_parent boxes k
root_home boxes k h positive e is = one_home_lem boxes k h (box_parent boxes k) is (parent k positive e)
