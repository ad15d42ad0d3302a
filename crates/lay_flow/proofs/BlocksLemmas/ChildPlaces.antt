-- The children of a box, in the list of the place of each box's parent.
use Rattle.std.proofs.Common.{◌≡◌, ℕ, zero, suc, ◌<◌, ◌≤◌, ◌&&◌, not, nat_lt, true, false, List, refl, sym, ap, ◌∙◌, arith, inl, inr, Some, None}
use Rattle.std.proofs.lemmas.Bool.{cases_lt, cases_eq}
use Rattle.lay_flow.specs.declared.blocks.flow_box.FlowBox.{FlowBox}
use Rattle.lay_flow.specs.Blocks.Boxes.{parent_at}
use Rattle.lay_flow.specs.Blocks.Children.{is_child, last_child, next_child}

pub not_child : (boxes : List FlowBox) (p k : ℕ) → (p < k → parent_at boxes k ≡ p → ⊥) → is_child boxes p k ≡ false
not_child boxes p k none = grind (arith, none)

pub child_is : (boxes : List FlowBox) (p k : ℕ) → p < k → parent_at boxes k ≡ p → is_child boxes p k ≡ true
child_is boxes p k lt e = grind (arith)

pub last_none : (boxes : List FlowBox) (p m : ℕ) → ((k : ℕ) → k < m → is_child boxes p k ≡ false) → last_child boxes p m ≡ None
last_none boxes p zero none = refl
last_none boxes p (suc k) none = rw (none k (omega arith)) (last_none boxes p k (λ j lt. none j (omega arith)))

pub last_same : (boxes : List FlowBox) (p m n : ℕ) → m ≤ n → ((k : ℕ) → m ≤ k → k < n → is_child boxes p k ≡ false) → last_child boxes p n ≡ last_child boxes p m
last_same boxes p m zero le none = let e : m ≡ 0 = omega arith in rw e refl
last_same boxes p m (suc k) le none = elim (cases_lt k m) [
  | inl lt ↦ (let e : m ≡ suc k = omega arith in rw e refl)
  | inr ge ↦ rw (none k (omega arith) (omega arith)) (last_same boxes p m k (omega arith) (λ j a b. none j a (omega arith)))
]

pub last_some : (boxes : List FlowBox) (p s m : ℕ) → s < m → is_child boxes p s ≡ true → ((k : ℕ) → s < k → k < m → is_child boxes p k ≡ false) → last_child boxes p m ≡ Some s
last_some boxes p s zero lt is none = absurd (omega arith)
last_some boxes p s (suc k) lt is none = elim (cases_eq s k) [
  | inl e ↦ (let i : is_child boxes p k ≡ true = ap (is_child boxes p) (sym e) ∙ is in rw (i, e) refl)
  | inr ne ↦ rw (none k (omega arith) (omega arith)) (last_some boxes p s k (omega arith) is (λ j a b. none j a (omega arith)))
]

pub next_none : (boxes : List FlowBox) (p m n : ℕ) → ((k : ℕ) → m ≤ k → k < n → is_child boxes p k ≡ false) → next_child boxes p m n ≡ None
next_none boxes p m zero none = refl
next_none boxes p m (suc k) none = elim (cases_lt k m) [
  | inl lt ↦ (let b : (is_child boxes p k && not (nat_lt k m)) ≡ false = grind arith in rw (next_none boxes p m k (λ j a b. none j a (omega arith)), b) refl)
  | inr ge ↦ rw (next_none boxes p m k (λ j a b. none j a (omega arith)), none k (omega arith) (omega arith)) refl
]

pub next_some : (boxes : List FlowBox) (p m s n : ℕ) → m ≤ s → s < n → is_child boxes p s ≡ true → ((k : ℕ) → m ≤ k → k < s → is_child boxes p k ≡ false) → next_child boxes p m n ≡ Some s
next_some boxes p m s zero le lt is none = absurd (omega arith)
next_some boxes p m s (suc k) le lt is none = elim (cases_eq s k) [
  | inl e ↦ (let i : is_child boxes p k ≡ true = ap (is_child boxes p) (sym e) ∙ is in
      let b : not (nat_lt k m) ≡ true = grind arith in
      let h : next_child boxes p m k ≡ None = next_none boxes p m k (λ j a b. none j a (omega arith)) in
      rw (h, i, b, e) refl)
  | inr ne ↦ rw (next_some boxes p m s k le (omega arith) is none) refl
]

pub next_same : (boxes : List FlowBox) (p l m n : ℕ) → l ≤ m → ((k : ℕ) → l ≤ k → k < m → is_child boxes p k ≡ false) → next_child boxes p l n ≡ next_child boxes p m n
next_same boxes p l m zero le none = refl
next_same boxes p l m (suc k) le none = elim (cases_lt k m) [
  | inl lt ↦ (let b : nat_lt k m ≡ true = grind arith in
      let a : (is_child boxes p k && not (nat_lt k l)) ≡ false = elim (cases_lt k l) [ inl low ↦ grind arith | inr high ↦ rw (none k high lt) refl ] in
      let c : (is_child boxes p k && not (nat_lt k m)) ≡ false = grind arith in
      rw (next_same boxes p l m k le none, a, c) refl)
  | inr ge ↦ (let a : nat_lt k l ≡ false = grind arith in let b : nat_lt k m ≡ false = grind arith in rw (next_same boxes p l m k le none, a, b) refl)
]
