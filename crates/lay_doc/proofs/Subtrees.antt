-- A node and its descendants stand together up to the node's end, behind which no parent is among them.
use Rattle.std.proofs.Common.{◌≡◌, ℕ, zero, suc, ◌+◌, ◌-◌, ◌<◌, ◌≤◌, List, length, get_or, ap, ◌∙◌, arith, inl, inr, subst}
use Rattle.std.proofs.lemmas.Bool.{cases_lt}
use Rattle.lay_doc.specs.Tree.{IsTree, IsSlot, child_count, children_before, end_of, IsUnder, itself, child, HasSubtree}
use Rattle.lay_doc.proofs.Slots.{children_yes, children_grow, end_slot, slot_is}

-- the node behind a subtree isn't a child of its root
pub end_low : (parents : List ℕ) (p e : ℕ) → IsSlot parents p (child_count parents p) e → e < length parents → get_or parents e 0 < p
end_low parents p e slot lt = elim (cases_lt (get_or parents e 0) p) [
  | inl low ↦ low
  | inr high ↦ (let is : get_or parents e 0 ≡ p = omega (arith, slot.next lt) in
      let one = children_yes parents p e slot.after lt is in
      let n : ℕ = length parents - (e + 1) in
      let q : (e + 1) + n ≡ length parents = omega arith in
      let grow = children_grow parents p (e + 1) n (omega (arith, slot.after)) (omega arith) in
      let more : children_before parents p (e + 1) ≤ child_count parents p = rw q at grow in
      absurd (omega (arith, slot.index_is)))
]

-- no node behind a subtree has its parent in it
pub parent_behind : (parents : List ℕ) → IsTree parents → (p e : ℕ) → IsSlot parents p (child_count parents p) e → (k : ℕ) → e ≤ k → k < length parents → p ≤ get_or parents k 0 → e ≤ get_or parents k 0
parent_behind parents tree p e slot k behind lt high = elim (cases_lt (get_or parents k 0) e) [
  | inl low ↦ (let end = end_low parents p e slot (omega arith) in elim (cases_lt e k) [
    | inl over ↦ (let t = tree.together e k over lt low in absurd (omega arith))
    | inr same ↦ (let q : k ≡ e = omega arith in let r : get_or parents k 0 ≡ get_or parents e 0 = ap (λ (m : ℕ). get_or parents m 0) q in absurd (omega arith))
  ])
  | inr over ↦ over
]

-- a node outside of a subtree has no parent in it
pub parent_outside : (parents : List ℕ) → IsTree parents → (p e : ℕ) → 0 < p → IsSlot parents p (child_count parents p) e → (k : ℕ) → k < length parents → (p ≤ k → e ≤ k) → p ≤ get_or parents k 0 → e ≤ get_or parents k 0
parent_outside parents tree p e positive slot k lt outside high = elim (cases_lt 0 k) [
  | inl some ↦ (let b = tree.before k some lt in parent_behind parents tree p e slot k (outside (omega arith)) lt high)
  | inr none ↦ (let z : k ≡ 0 = omega arith in let r : get_or parents k 0 ≡ 0 = ap (λ (m : ℕ). get_or parents m 0) z ∙ tree.root in absurd (omega arith))
]

record Ends (parents : List ℕ) (p : ℕ) : Type 0 where
  at : ℕ
  slot : IsSlot parents p (child_count parents p) at

-- looked for from a place on, the end is found
find_end : (parents : List ℕ) → IsTree parents → (p n at : ℕ) → p < at → at + n ≡ length parents → ((j : ℕ) → p < j → j < at → p ≤ get_or parents j 0) → Ends parents p
find_end parents tree p zero at after all below =
    let q : at ≡ length parents = omega arith in
    record {
      at = at;
      slot = record {
        after = after;
        within = omega arith;
        below = below;
        index_is = ap (children_before parents p) q;
        next = λ lt. absurd (omega arith);
      };
    }
find_end parents tree p (suc n) at after all below = elim (cases_lt (get_or parents at 0) p) [
  | inl low ↦ record { at = at; slot = end_slot parents tree p at after (omega arith) below low }
  | inr high ↦ find_end parents tree p n (at + 1) (omega arith) (omega arith) (λ j from lt. elim (cases_lt j at) [
    | inl before ↦ below j from before
    | inr here ↦ (let q : at ≡ j = omega arith in subst (λ (m : ℕ). p ≤ get_or parents m 0) q high)
  ])
]

pub end_is_slot : (parents : List ℕ) → IsTree parents → (p : ℕ) → p < length parents → IsSlot parents p (child_count parents p) (end_of parents p)
end_is_slot parents tree p lt =
    let ends = find_end parents tree p (length parents - (p + 1)) (p + 1) (omega arith) (omega arith) (λ j from before. absurd (omega arith)) in
    subst (λ (m : ℕ). IsSlot parents p (child_count parents p) m) (slot_is parents p (child_count parents p) ends.at ends.slot) ends.slot

under_within : (parents : List ℕ) → IsTree parents → (p e : ℕ) → IsSlot parents p (child_count parents p) e → (k : ℕ) → k < length parents → IsUnder parents p k → (p ≤ k) × (k < e)
under_within parents tree p e slot _ lt itself = (omega arith, slot.after)
under_within parents tree p e slot _ lt (child k positive up) =
    let b = tree.before k positive lt in
    let rest = under_within parents tree p e slot (get_or parents k 0) (omega arith) up in (
      omega (arith, rest.0),
      elim (cases_lt k e) [
        | inl low ↦ low
        | inr high ↦ (let h = parent_behind parents tree p e slot k high lt rest.0 in absurd (omega (arith, rest.1)))
      ],
    )

within_under : (parents : List ℕ) → IsTree parents → (p e : ℕ) → IsSlot parents p (child_count parents p) e → (n k : ℕ) → k < n → p ≤ k → k < e → IsUnder parents p k
within_under parents tree p e slot zero k fuel from to = absurd (omega arith)
within_under parents tree p e slot (suc n) k fuel from to = elim (cases_lt p k) [
  | inl over ↦ (let b = tree.before k (omega arith) (omega (arith, slot.within)) in
      child k (omega arith) (within_under parents tree p e slot n (get_or parents k 0) (omega arith) (slot.below k over to) (omega arith)))
  | inr same ↦ (let q : p ≡ k = omega arith in subst (λ (m : ℕ). IsUnder parents p m) q itself)
]

pub has_subtree_lem : HasSubtree
has_subtree_lem parents p k tree has lt =
    let slot = end_is_slot parents tree p has in
    (λ under. under_within parents tree p (end_of parents p) slot k lt under, λ is. within_under parents tree p (end_of parents p) slot (k + 1) k (omega arith) is.0 is.1)
