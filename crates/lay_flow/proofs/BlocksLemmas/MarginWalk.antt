-- The margins of a context in document order, as a walk: a position (p, m) lies between two margins, where the boxes before
-- m were opened and p is the innermost box that is open.
use Rattle.std.proofs.Common.{◌≡◌, ℕ, zero, suc, ◌+◌, ◌-◌, ◌<◌, ◌≤◌, List, length, refl, arith, inl, inr, subst}
use Rattle.std.proofs.lemmas.Bool.{cases_lt, cases_eq}
use Rattle.lay_flow.specs.declared.blocks.flow_box.FlowBox.{FlowBox}
use Rattle.lay_flow.specs.Blocks.Boxes.{parent_at, parents_of}
use Rattle.lay_flow.proofs.BlocksLemmas.BoxTrees.{parent_before, parents_together}
use Rattle.lay_doc.specs.Tree.{IsTree}
use Rattle.lay_flow.specs.Blocks.MarginPlace.{IsAround, IsPlace}

-- the place before the top margin of the box at k
pub place_before : (boxes : List FlowBox) → IsTree (parents_of boxes) → (k : ℕ) → 0 < k → k < length boxes → IsPlace boxes (parent_at boxes k) k
place_before boxes tree k positive within = record {
  parent = parent_before boxes tree k positive within;
  within = omega (arith, within);
  inside = λ i low high. parents_together boxes tree i k high within low;
  next = λ w. omega arith;
}

-- the boxes between the parent of p and m lie in that parent, if those between p and m lie in p
pub inside_up : (boxes : List FlowBox) → IsTree (parents_of boxes) → (p m : ℕ) → p < length boxes → parent_at boxes p < p → ((i : ℕ) → p < i → i < m → p ≤ parent_at boxes i)
    → (i : ℕ) → parent_at boxes p < i → i < m → parent_at boxes p ≤ parent_at boxes i
inside_up boxes tree p m within up inside i low high = elim (cases_lt i p) [
  | inl before ↦ parents_together boxes tree i p before within low
  | inr from ↦ elim (cases_eq i p) [
    | inl e ↦ rw e (omega arith)
    | inr ne ↦ (let b = inside i (omega (arith, from, ne)) high in omega (arith, b, up))
  ]
]

-- the place to which the walk goes before it opens the box at m
pub record IsNextUp (boxes : List FlowBox) (m q : ℕ) : Type 0 where
  pub known : m < length boxes → parent_at boxes m ≡ q
  pub last : length boxes ≤ m → q ≡ 0

module _ (boxes : List FlowBox) (tree : IsTree (parents_of boxes)) (S : ℕ → ℕ → Type 0)
    (close : (p m : ℕ) → 0 < p → p < m → m ≤ length boxes → (m < length boxes → parent_at boxes m < p) → IsAround boxes p m → S p m → S (parent_at boxes p) m) where
  -- the boxes in q are closed from the innermost one on
  reaches : (q m : ℕ) → IsPlace boxes q m → (fuel p : ℕ) → p < fuel → q ≤ p → p < m → IsAround boxes p m → S p m → S q m
  reaches q m at zero p small le lt inside s = absurd (omega (arith, small))
  reaches q m at (suc fuel) p small le lt inside s = elim (cases_eq p q) [
    | inl e ↦ subst (λ (x : ℕ). S x m) e s
    | inr ne ↦ (let less : q < p = omega (arith, le, ne) in
        let w = at.within in
        let b = parent_before boxes tree p (omega (arith, less)) (omega (arith, lt, w)) in
        let ends : m < length boxes → parent_at boxes m < p = λ w. (let k = at.next w in omega (arith, k, less)) in
        reaches q m at fuel (parent_at boxes p) (omega (arith, b, small)) (at.inside p less lt) (omega (arith, b, lt))
        (inside_up boxes tree p m (omega (arith, lt, w)) b inside) (close p m (omega (arith, less)) lt w ends inside s))
  ]

  pub closes : (q m fuel p : ℕ) → p < fuel → q ≤ p → p < m → m ≤ length boxes → IsNextUp boxes m q → IsAround boxes p m → S p m → S q m
  closes q m fuel p small le lt within next around s = reaches q m (record {
    parent = omega (arith, le, lt);
    within = within;
    inside = λ i low high. elim (cases_lt m (length boxes)) [
      | inl w ↦ (let k = next.known w in let t = parents_together boxes tree i m high w (omega (arith, k, low)) in omega (arith, k, t))
      | inr over ↦ (let z = next.last over in omega (arith, z))
    ];
    next = λ w. let k = next.known w in omega (arith, k);
  }) fuel p small le lt around s

  module _ (open_one : (k : ℕ) → 0 < k → k < length boxes → S (parent_at boxes k) k → S k (k + 1)) where
    -- the box at k was just opened
    pub opens : (k : ℕ) → S 0 1 → k < length boxes → S k (k + 1)
    opens zero s within = s
    opens (suc k) s within =
        let was = opens k s (omega (arith, within)) in
        let b = parent_before boxes tree (suc k) (omega arith) within in
        let next : IsNextUp boxes (suc k) (parent_at boxes (suc k)) = record { known = λ w. refl; last = λ over. absurd (omega (arith, within, over)) } in
        let low : parent_at boxes (suc k) ≤ k = omega (arith, b) in
        let one : k + 1 ≡ suc k = omega arith in
        let there = subst (λ (m : ℕ). S k m) one was in
        open_one (suc k) (omega arith) within (closes (parent_at boxes (suc k)) (suc k) (suc k) k (omega arith) low (omega arith) (omega (arith, within)) next (λ i a b. absurd (omega (arith, a, b))) there)

    pub walk : S 0 1 → 0 < length boxes → S 0 (length boxes)
    walk s some = let n : ℕ = length boxes in
        let one : (n - 1) + 1 ≡ n = omega (arith, some) in
        let was = subst (λ (m : ℕ). S (n - 1) m) one (opens (n - 1) s (omega (arith, some))) in
        closes 0 n n (n - 1) (omega (arith, some)) (omega arith) (omega (arith, some)) (omega arith) (record { known = λ w. absurd (omega (arith, w)); last = λ o. refl }) (λ i a b. absurd (omega (arith, a, b))) was

    -- and so to each place of the sequence
    pub walk_to : S 0 1 → (p m : ℕ) → IsPlace boxes p m → S p m
    walk_to s p zero at = let lt = at.parent in absurd (omega (arith, lt))
    walk_to s p (suc m) at =
        let w = at.within in
        let lt = at.parent in
        let one : m + 1 ≡ suc m = omega arith in
        reaches p (suc m) at (suc m) m (omega arith) (omega (arith, lt)) (omega arith) (λ i a b. absurd (omega (arith, a, b))) (subst (λ (n : ℕ). S m n) one (opens m s (omega (arith, w))))
