-- Counting the children before a place.
use Rattle.std.proofs.Common.{◌≡◌, ℕ, zero, suc, ◌+◌, ◌<◌, ◌≤◌, List, [], ◌∷◌, length, get_or, refl, sym, ap, ◌∙◌, arith, cond, eqb, drop, ◌-◌, inl, inr, add-one, add-zero}
use Rattle.std.specs.Prelude.{count_by}
use Rattle.std.specs.List.{between}
use Rattle.std.proofs.lemmas.Bool.{eq-eqb, ne_eqb, le-ltb, lt-ltb, cases_lt, cases_eq}
use Rattle.std.proofs.lemmas.Grind.{common_steps}
use Rattle.std.proofs.lemmas.List.Edits.{between_more, between_none}
use Rattle.std.proofs.lemmas.List.Sums.{sum_by-append}
use Rattle.std.proofs.Math.Seq.{drop-cons}
use Rattle.lay_doc.specs.Tree.{IsTree, IsSlot, children_before, child_count, slot_from, slot_of, OneSlot}

children_step : (parents : List ℕ) (p k : ℕ) → p < k → k < length parents → children_before parents p (k + 1) ≡ children_before parents p k + count_by (λ u. eqb u p) (get_or parents k 0 ∷ [])
children_step parents p k after within =
    ap (count_by (λ u. eqb u p)) (between_more parents (p + 1) k 0 (omega arith) within) ∙ sum_by-append (λ u. cond (eqb u p) 1 0) (between (p + 1) k parents) (get_or parents k 0 ∷ [])

pub children_yes : (parents : List ℕ) (p k : ℕ) → p < k → k < length parents → get_or parents k 0 ≡ p → children_before parents p (k + 1) ≡ children_before parents p k + 1
children_yes parents p k after within is =
    let e = eq-eqb _ _ is in
    children_step parents p k after within ∙ rw e refl

pub children_no : (parents : List ℕ) (p k : ℕ) → p < k → k < length parents → (get_or parents k 0 ≡ p → ⊥) → children_before parents p (k + 1) ≡ children_before parents p k
children_no parents p k after within isnt =
    let e = ne_eqb _ _ isnt in
    children_step parents p k after within ∙ rw e (omega arith)

pub children_none : (parents : List ℕ) (p : ℕ) → children_before parents p (p + 1) ≡ 0
children_none parents p = ap (count_by (λ u. eqb u p)) (between_none parents (p + 1))

-- behind the subtree of p there is no child of it
pub no_more : (parents : List ℕ) → IsTree parents → (p at n : ℕ) → p < at → at + n ≤ length parents → (0 < n → get_or parents at 0 < p) → children_before parents p (at + n) ≡ children_before parents p at
no_more parents tree p at zero after within ends = ap (children_before parents p) (add-zero at)
no_more parents tree p at (suc n) after within ends =
    let before = no_more parents tree p at n after (omega arith) (λ _. ends (omega arith)) in
    let isnt : get_or parents (at + n) 0 ≡ p → ⊥ = λ e. elim (cases_lt 0 n) [
      | inl some ↦ (let h = tree.together at (at + n) (omega arith) (omega arith) (omega arith) in omega (arith, ends (omega arith)))
      | inr none ↦ (let z : n ≡ 0 = omega arith in let q : get_or parents (at + n) 0 ≡ get_or parents at 0 = ap (λ (m : ℕ). get_or parents (at + m) 0) z ∙ ap (λ (m : ℕ). get_or parents m 0) (add-zero at) in omega (arith, ends (omega arith)))
    ] in
    let one = children_no parents p (at + n) (omega arith) (omega arith) isnt in
    ap (children_before parents p) (omega arith) ∙ one ∙ before

pub slot_skip : (parents : List ℕ) (p index at : ℕ) → at < length parents → p < get_or parents at 0 → slot_from p index at (drop at parents) ≡ slot_from p index (at + 1) (drop (at + 1) parents)
slot_skip parents p index at lt above =
    let a = le-ltb (get_or parents at 0) p (omega arith) in
    let b = ne_eqb (get_or parents at 0) p (λ e. omega arith) in
    ap (slot_from p index at) (drop-cons parents at 0 lt) ∙ rw (a, b, add-one at) refl

pub slot_child : (parents : List ℕ) (p index at : ℕ) → at < length parents → get_or parents at 0 ≡ p → 0 < index → slot_from p index at (drop at parents) ≡ slot_from p (index - 1) (at + 1) (drop (at + 1) parents)
slot_child parents p index at lt is more =
    let a = le-ltb (get_or parents at 0) p (omega arith) in
    let b = eq-eqb (get_or parents at 0) p is in
    let c = ne_eqb index 0 (λ e. omega arith) in
    ap (slot_from p index at) (drop-cons parents at 0 lt) ∙ rw (a, b, c, add-one at) refl

pub children_grow : (parents : List ℕ) (p k n : ℕ) → p < k → k + n ≤ length parents → children_before parents p k ≤ children_before parents p (k + n)
children_grow parents p k zero after within = rw (add-zero k) (omega arith)
children_grow parents p k (suc n) after within =
    let before = children_grow parents p k n after (omega arith) in
    let q : k + suc n ≡ (k + n) + 1 = omega arith in
    rw q (elim (cases_eq (get_or parents (k + n) 0) p) [
      | inl same ↦ (let one = children_yes parents p (k + n) (omega arith) (omega arith) same in omega arith)
      | inr other ↦ (let none = children_no parents p (k + n) (omega arith) (omega arith) other in omega arith)
    ])

-- the search for a slot ends at it
slot_here : (parents : List ℕ) (p at : ℕ) → at ≤ length parents → (at < length parents → get_or parents at 0 ≤ p) → slot_from p 0 at (drop at parents) ≡ at
slot_here parents p at within next = elim (cases_lt at (length parents)) [
  | inl lt ↦ ap (slot_from p 0 at) (drop-cons parents at 0 lt) ∙ (elim (cases_lt (get_or parents at 0) p) [
    | inl low ↦ (let t = lt-ltb (get_or parents at 0) p low in rw t refl)
    | inr high ↦ (let t = le-ltb (get_or parents at 0) p high in
        let s = eq-eqb (get_or parents at 0) p (let n = next lt in omega arith) in rw (t, s) refl)
  ])
  | inr end ↦ ap (slot_from p 0 at) (drop_end parents at end)
]
  where
    drop_end : (xs : List ℕ) (n : ℕ) → length xs ≤ n → drop n xs ≡ []
    drop_end xs n h = grind (arith, common_steps)

slot_reached : (parents : List ℕ) (p index at n k : ℕ) → IsSlot parents p index at → p < k → k + n ≡ at → slot_from p (index - children_before parents p k) k (drop k parents) ≡ at
slot_reached parents p index at zero k slot after ends =
    let q : k ≡ at = omega arith in
    let none : index - children_before parents p k ≡ 0 = rw q (omega (arith, slot.index_is)) in
    rw (none, q) (slot_here parents p at slot.within slot.next)
slot_reached parents p index at (suc n) k slot after ends =
    let lt : k < length parents = omega (arith, slot.within) in
    let rest = slot_reached parents p index at n (k + 1) slot (omega arith) (omega arith) in
    elim (cases_eq (get_or parents k 0) p) [
      | inl same ↦ (let one = children_yes parents p k after lt same in
          let grow = children_grow parents p (k + 1) n (omega arith) (omega (arith, slot.within)) in
          let e : (k + 1) + n ≡ at = omega arith in
          let more : children_before parents p (k + 1) ≤ children_before parents p at = rw e at grow in
          let more' : children_before parents p k + 1 ≤ index = omega (arith, one, more, slot.index_is) in
          let skip = slot_child parents p (index - children_before parents p k) k lt same (omega arith) in
          let q : index - children_before parents p (k + 1) ≡ index - children_before parents p k - 1 = omega (arith, one) in
          skip ∙ ap (λ (m : ℕ). slot_from p m (k + 1) (drop (k + 1) parents)) (sym q) ∙ rest)
      | inr other ↦ (let none = children_no parents p k after lt other in
          let above : p < get_or parents k 0 = omega (arith, slot.below k after (omega arith), other) in
          let skip = slot_skip parents p (index - children_before parents p k) k lt above in
          let q : index - children_before parents p (k + 1) ≡ index - children_before parents p k = omega (arith, none) in
          skip ∙ ap (λ (m : ℕ). slot_from p m (k + 1) (drop (k + 1) parents)) (sym q) ∙ rest)
    ]

pub slot_is : (parents : List ℕ) (p index at : ℕ) → IsSlot parents p index at → at ≡ slot_of parents p index
slot_is parents p index at slot =
    let none = children_none parents p in
    let q : index - children_before parents p (p + 1) ≡ index = omega (arith, none) in
    let h = slot_reached parents p index at (at - (p + 1)) (p + 1) slot (omega arith) (omega (arith, slot.after)) in
    sym (ap (λ (m : ℕ). slot_from p m (p + 1) (drop (p + 1) parents)) (sym q) ∙ h)

pub one_slot_lem : OneSlot
one_slot_lem parents p index at tree has slot = slot_is parents p index at slot

-- the first place behind p's subtree is the slot after its children
pub end_slot : (parents : List ℕ) → IsTree parents → (p at : ℕ) → p < at → at < length parents → ((j : ℕ) → p < j → j < at → p ≤ get_or parents j 0) → get_or parents at 0 < p → IsSlot parents p (child_count parents p) at
end_slot parents tree p at after within below low =
    let n : ℕ = length parents - at in
    let e : at + n ≡ length parents = omega arith in
    let h = no_more parents tree p at n after (omega arith) (λ _. low) in
    record {
      after = after;
      within = omega arith;
      below = below;
      index_is = sym (sym (ap (children_before parents p) e) ∙ h);
      next = λ _. omega arith;
    }
