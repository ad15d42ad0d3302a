-- The nearest block container of a box is the only one, and with these for parents boxes are a tree again.
use Rattle.std.proofs.Common.{◌≡◌, ℕ, zero, suc, ◌+◌, ◌<◌, ◌≤◌, true, false, List, [], ◌∷◌, ◌++◌, length, get_or, refl, sym, subst, arith, inl, inr}
use Rattle.std.proofs.lemmas.Bool.{cases_lt, both_ways}
use Rattle.std.proofs.lemmas.Grind.{elements}
use Rattle.lay_doc.specs.Tree.{IsTree}
use Rattle.lay_box_tree.specs.BoxColumns.{box_parents}
use Rattle.lay_box_tree.specs.Containers.{counts, box_parent, IsContainer, own, parent, further, AreContainers, OneContainer, ContainersAreATree}
use Rattle.lay_box_tree.specs.declared.box_tree.BoxNode.{BoxNode}
use Rattle.lay_box_tree.proofs.BoxForests.{length-parents}

pub one_container : OneContainer
one_container boxes k b c own own = refl
one_container boxes k b c own (parent j positive e) = absurd (omega (arith, positive))
one_container boxes k b c own (further j d positive e up) = absurd (omega (arith, positive))
one_container boxes k b c (parent j positive e) own = absurd (omega (arith, positive))
one_container boxes k b c (parent j positive e) (parent i positive-2 e-2) = refl
one_container boxes k b c (parent j positive e) (further i d positive-2 e-2 up) = absurd (both_ways (counts boxes (box_parent boxes j)) e-2 e)
one_container boxes k b c (further j d positive e up) own = absurd (omega (arith, positive))
one_container boxes k b c (further j d positive e up) (parent i positive-2 e-2) = absurd (both_ways (counts boxes (box_parent boxes j)) e e-2)
one_container boxes k b c (further j d positive e up) (further i d-2 positive-2 e-2 up-2) = one_container boxes (box_parent boxes j) d d-2 up up-2

-- the nearest block containers of the boxes before n
pub record ContainersTo (boxes : List BoxNode) (containers : List ℕ) (n : ℕ) : Type 0 where
  pub count : length containers ≡ n
  pub each : (k : ℕ) → k < n → IsContainer boxes k (get_or containers k 0)

pub none : (boxes : List BoxNode) → ContainersTo boxes [] 0
none boxes = record { count = refl; each = λ k lt. absurd (omega arith) }

read_before : (cs : List ℕ) (c k : ℕ) → k < length cs → get_or (cs ++ c ∷ []) k 0 ≡ get_or cs k 0
read_before cs c k lt = grind (arith, elements)

read_last : (cs : List ℕ) (c k : ℕ) → k ≡ length cs → get_or (cs ++ c ∷ []) k 0 ≡ c
read_last cs c k e = grind (arith, elements)

pub one_more : (boxes : List BoxNode) (cs : List ℕ) (n c : ℕ) → ContainersTo boxes cs n → IsContainer boxes n c → ContainersTo boxes (cs ++ c ∷ []) (n + 1)
one_more boxes cs n c so_far is = record {
  count = grind (arith, elements, so_far.count);
  each = λ k lt. elim (cases_lt k n) [
    | inl low ↦ (let e = read_before cs c k (omega (arith, so_far.count)) in rw e (so_far.each k low))
    | inr high ↦ (let q : k ≡ n = omega arith in let e = read_last cs c n (sym so_far.count) in rw (q, e) is)
  ];
}

-- a box has its parent where that counts, and else the one of its parent, which stands before it
pub own_or_parent : (boxes : List BoxNode) → IsTree (box_parents boxes) → (k : ℕ) → counts boxes (box_parent boxes k) ≡ true → IsContainer boxes k (box_parent boxes k)
own_or_parent boxes tree zero e = let r : box_parent boxes 0 ≡ 0 = tree.root in rw r own
own_or_parent boxes tree (suc k) e = parent (suc k) (omega arith) e

pub own_counts : (boxes : List BoxNode) → IsTree (box_parents boxes) → counts boxes (box_parent boxes 0) ≡ true
own_counts boxes tree = let r : box_parent boxes 0 ≡ 0 = tree.root in rw r refl

pub parent_before : (boxes : List BoxNode) → IsTree (box_parents boxes) → (n : ℕ) → n < length boxes → counts boxes (box_parent boxes n) ≡ false → (0 < n) × (box_parent boxes n < n)
parent_before boxes tree zero within e = absurd (both_ways (counts boxes (box_parent boxes 0)) e (own_counts boxes tree))
parent_before boxes tree (suc n) within e = (omega arith, tree.before (suc n) (omega arith) (omega (arith, length-parents boxes)))

-- The tree of containers.
module _ (boxes : List BoxNode) (tree : IsTree (box_parents boxes)) where
  -- a container stands before its box, but for the own one
  before : (k c : ℕ) → k < length boxes → IsContainer boxes k c → 0 < k → c ≤ box_parent boxes k
  before k c within own positive = absurd (omega (arith, positive))
  before k c within (parent j above e) positive = omega arith
  before k c within (further j d above e up) positive =
      let b = tree.before j above (omega (arith, length-parents boxes)) in
      elim (cases_lt 0 (box_parent boxes j)) [
        | inl some ↦ (let h = before (box_parent boxes j) d (omega arith) up some in let g = tree.before (box_parent boxes j) some (omega (arith, length-parents boxes)) in omega arith)
        | inr low ↦ absurd (let z : box_parent boxes j ≡ 0 = omega arith in let f : true ≡ false = subst (λ (p : ℕ). counts boxes p ≡ false) z e in cc)
      ]

  -- the parent of a box between a box and its container isn't before that container
  between : (k c : ℕ) → k < length boxes → IsContainer boxes k c → (j : ℕ) → c < j → j ≤ k → c ≤ box_parent boxes j
  between k c within own j after upto = absurd (omega arith)
  between k c within (parent i above e) j after upto = elim (cases_lt j i) [
    | inl low ↦ tree.together j i low (omega (arith, length-parents boxes)) after
    | inr high ↦ (let q : j ≡ i = omega arith in rw q (omega arith))
  ]
  between k c within (further i d above e up) j after upto = elim (cases_lt (box_parent boxes i) j) [
    | inl over ↦ (let least = before i d within (further i d above e up) above in
        elim (cases_lt j i) [
          | inl low ↦ (let t = tree.together j i low (omega (arith, length-parents boxes)) over in omega (arith, t, least))
          | inr high ↦ (let q : j ≡ i = omega arith in rw q (omega (arith, least)))
        ])
    | inr under ↦ (let b = tree.before i above (omega (arith, length-parents boxes)) in between (box_parent boxes i) d (omega arith) up j after (omega arith))
  ]

  -- a container counts
  it_counts : (k c : ℕ) → IsContainer boxes k c → counts boxes c ≡ true
  it_counts k c own = refl
  it_counts k c (parent j above e) = e
  it_counts k c (further j d above e up) = it_counts (box_parent boxes j) d up

  -- so neither is its container
  inside : (k c : ℕ) → k < length boxes → IsContainer boxes k c → (j d : ℕ) → IsContainer boxes j d → c < j → j ≤ k → c ≤ d
  inside k c within is j d own after upto = absurd (omega (arith, after))
  inside k c within is j d (parent i above e) after upto = between k c within is i after upto
  inside k c within is j d (further i b above e up) after upto =
      let high = between k c within is i after upto in
      let less = tree.before i above (omega (arith, length-parents boxes)) in
      elim (cases_lt c (box_parent boxes i)) [
        | inl over ↦ inside k c within is (box_parent boxes i) b up over (omega arith)
        | inr same ↦ absurd (let q : box_parent boxes i ≡ c = omega arith in both_ways (counts boxes c) (subst (λ (p : ℕ). counts boxes p ≡ false) q e) (it_counts k c is))
      ]

pub containers_are_a_tree : ContainersAreATree
containers_are_a_tree boxes cs tree are = record {
  root = root boxes cs are;
  before = λ k positive lt. (let within : k < length boxes = omega (arith, are.count) in
      let low = before boxes tree k (get_or cs k 0) within (are.each k within) positive in
      let less = tree.before k positive (omega (arith, length-parents boxes)) in
      omega arith);
  together = λ j k lt within over. (let there : k < length boxes = omega (arith, are.count) in
      inside boxes tree k (get_or cs k 0) there (are.each k there) j (get_or cs j 0) (are.each j (omega arith)) over (omega arith));
}
  where
    own_is : (boxes : List BoxNode) (k c : ℕ) → IsContainer boxes k c → k ≡ 0 → c ≡ 0
    own_is boxes k c own z = refl
    own_is boxes k c (parent j above e) z = absurd (omega (arith, above, z))
    own_is boxes k c (further j d above e up) z = absurd (omega (arith, above, z))

    root : (boxes : List BoxNode) (cs : List ℕ) → AreContainers boxes cs → get_or cs 0 0 ≡ 0
    root boxes [] are = refl
    root boxes (c ∷ cs) are = own_is boxes 0 c (are.each 0 (omega (arith, are.count))) refl
