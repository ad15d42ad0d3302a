-- In a tree each index up to the number of a node's children has its slot.
use Rattle.std.proofs.Common.{◌≡◌, ℕ, zero, suc, ◌+◌, ◌-◌, ◌<◌, ◌≤◌, List, length, get_or, ap, arith, inl, inr, subst}
use Rattle.std.proofs.lemmas.Bool.{cases_lt, cases_eq}
use Rattle.lay_doc.specs.Tree.{IsTree, IsSlot, child_count, children_before, slot_of}
use Rattle.lay_doc.proofs.Slots.{children_yes, children_no, children_none, end_slot, slot_is}

record Found (parents : List ℕ) (p index : ℕ) : Type 0 where
  at : ℕ
  slot : IsSlot parents p index at

module _ (parents : List ℕ) (tree : IsTree parents) (p index : ℕ) (few : index ≤ child_count parents p) where
  below_more : (at : ℕ) → ((j : ℕ) → p < j → j < at → p ≤ get_or parents j 0) → p ≤ get_or parents at 0 → (j : ℕ) → p < j → j < at + 1 → p ≤ get_or parents j 0
  below_more at below here j from lt = elim (cases_lt j at) [
    | inl before ↦ below j from before
    | inr same ↦ (let q : at ≡ j = omega arith in subst (λ (m : ℕ). p ≤ get_or parents m 0) q here)
  ]

  find_slot : (n at : ℕ) → p < at → at + n ≡ length parents → ((j : ℕ) → p < j → j < at → p ≤ get_or parents j 0) → children_before parents p at ≤ index → Found parents p index
  find_slot zero at after all below seen =
      let q : at ≡ length parents = omega arith in
      let e : children_before parents p at ≡ child_count parents p = ap (children_before parents p) q in
      record { at = at; slot = record { after = after; within = omega arith; below = below; index_is = omega (arith, e); next = λ lt. absurd (omega arith) } }
  find_slot (suc n) at after all below seen = elim (cases_lt (get_or parents at 0) p) [
    | inl low ↦ (let end = end_slot parents tree p at after (omega arith) below low in
        record { at = at; slot = record { after = after; within = omega arith; below = below; index_is = omega (arith, end.index_is); next = λ lt. omega arith } })
    | inr high ↦ elim (cases_eq (get_or parents at 0) p) [
      | inl same ↦ elim (cases_eq (children_before parents p at) index) [
        | inl here ↦ record { at = at; slot = record { after = after; within = omega arith; below = below; index_is = here; next = λ lt. omega arith } }
        | inr fewer ↦ (let one = children_yes parents p at after (omega arith) same in
            find_slot n (at + 1) (omega arith) (omega arith) (below_more at below high) (omega (arith, one)))
      ]
      | inr other ↦ (let none = children_no parents p at after (omega arith) other in
          find_slot n (at + 1) (omega arith) (omega arith) (below_more at below high) (omega (arith, none)))
    ]
  ]

  pub slot_found : p < length parents → IsSlot parents p index (slot_of parents p index)
  slot_found has =
      let found = find_slot (length parents - (p + 1)) (p + 1) (omega arith) (omega arith) (λ j from before. absurd (omega arith)) (let z = children_none parents p in omega (arith, z)) in
      subst (λ (m : ℕ). IsSlot parents p index m) (slot_is parents p index found.at found.slot) found.slot
