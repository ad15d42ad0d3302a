-- The subtree of a node ends behind its last node, which the links to last children find.
use Rattle.std.proofs.Common.{◌≡◌, ◌≢◌, ℕ, ◌+◌, ◌<◌, ◌≤◌, List, length, get_or, refl, sym, ap, ◌∙◌, arith, inl, inr}
use Rattle.std.proofs.lemmas.Bool.{cases_lt}
use Rattle.lay_doc.specs.Tree.{IsTree, IsSlot, child_count, children_before}
use Rattle.lay_run.proofs.Cited.{end_low, end_slot}
use Rattle.lay_run.specs.Gathered.Links.{IsLastOf, itself, below}
use Rattle.lay_run.specs.Gathered.Standing.{IsOrder}

-- nodes by number in a tree by place, with links to last children
pub record Linked (parents places ups lasts : List ℕ) : Type 0 where
  pub tree : IsTree parents
  pub order : IsOrder places
  pub count : length places ≡ length parents
  pub root : get_or places 0 0 ≡ 0
  pub parent : (i : ℕ) → i < length parents → get_or parents (get_or places i 0) 0 ≡ get_or places (get_or ups i 0) 0
  pub up_within : (i : ℕ) → i < length parents → get_or ups i 0 < length parents
  pub child : (i : ℕ) → i < length parents → get_or lasts i 0 ≢ i → (0 < get_or lasts i 0) × (get_or lasts i 0 < length parents) × (get_or ups (get_or lasts i 0) 0 ≡ i)
  pub last : (i k : ℕ) → 0 < k → k < length parents → get_or ups k 0 ≡ i → (get_or lasts i 0 ≢ i) × (get_or places k 0 ≤ get_or places (get_or lasts i 0) 0)

finish : (parents : List ℕ) → IsTree parents → (p at : ℕ) → p < at → at ≤ length parents → ((j : ℕ) → p < j → j < at → p ≤ get_or parents j 0) → (at < length parents → get_or parents at 0 < p) → IsSlot parents p (child_count parents p) at
finish parents tree p at after within under low = elim (cases_lt at (length parents)) [
  | inl lt ↦ end_slot parents tree p at after lt under (low lt)
  | inr end ↦ (let q : at ≡ length parents = omega arith in
      record { after = after; within = within; below = under; index_is = ap (children_before parents p) q; next = λ lt. absurd (omega arith) })
]

-- a child of a node, at a place behind the first
record Child (places ups : List ℕ) (i at : ℕ) : Type 0 where
  number : ℕ
  behind : 0 < number
  within : number < length places
  stands : get_or places number 0 ≡ at
  under : get_or ups number 0 ≡ i

module _ (parents places ups lasts : List ℕ) (h : Linked parents places ups lasts) where
  child_at : (i at : ℕ) → i < length parents → 0 < at → at < length parents → get_or parents at 0 ≡ get_or places i 0 → Child places ups i at
  child_at i at lt positive within is =
      let n = h.order.each at (let c = h.count in omega arith) in
      let up = h.up_within n.number (omega (arith, h.count, n.within)) in
      record {
        number = n.number;
        behind = elim (cases_lt 0 n.number) [
          | inl some ↦ some
          | inr none ↦ (let z : n.number ≡ 0 = omega arith in let e : at ≡ 0 = sym n.stands ∙ ap (λ (k : ℕ). get_or places k 0) z ∙ h.root in absurd (omega arith))
        ];
        within = n.within;
        stands = n.stands;
        under = h.order.apart (get_or ups n.number 0) i (omega (arith, h.count, up)) (omega (arith, h.count, lt))
            (sym (h.parent n.number (omega (arith, h.count, n.within))) ∙ ap (λ (k : ℕ). get_or parents k 0) n.stands ∙ is);
      }

  leaf : (i : ℕ) → i < length parents → get_or lasts i 0 ≡ i → IsSlot parents (get_or places i 0) (child_count parents (get_or places i 0)) (get_or places i 0 + 1)
  leaf i lt is =
      let p = get_or places i 0 in
      let w = h.order.within i (omega (arith, h.count, lt)) in
      finish parents h.tree p (p + 1) (omega arith) (omega (arith, h.count, w)) (λ j from before. absurd (omega arith)) (λ short.
      let b = h.tree.before (p + 1) (omega arith) short in
      elim (cases_lt (get_or parents (p + 1) 0) p) [
        | inl low ↦ low
        | inr high ↦ (let c = child_at i (p + 1) lt (omega arith) short (omega arith) in absurd ((h.last i c.number c.behind (omega (arith, h.count, c.within)) c.under).0 is))
      ])

  -- what ends the subtree of a last child ends that of its parent
  outer : (i c at : ℕ) → i < length parents → 0 < c → c < length parents → get_or ups c 0 ≡ i → c ≡ get_or lasts i 0
      → IsSlot parents (get_or places c 0) (child_count parents (get_or places c 0)) at → IsSlot parents (get_or places i 0) (child_count parents (get_or places i 0)) at
  outer i c at lt positive within up is slot =
      let p = get_or places i 0 in
      let q = get_or places c 0 in
      let w = h.order.within c (omega (arith, h.count, within)) in
      let above : 0 < q = elim (cases_lt 0 q) [
        | inl some ↦ some
        | inr none ↦ (let z : c ≡ 0 = h.order.apart c 0 (omega (arith, h.count, within)) (omega (arith, h.count, within)) (let e : q ≡ 0 = omega arith in e ∙ sym h.root) in absurd (omega arith))
      ] in
      let parent : get_or parents q 0 ≡ p = h.parent c within ∙ ap (λ (k : ℕ). get_or places k 0) up in
      let before = h.tree.before q above (omega (arith, h.count, w)) in
      finish parents h.tree p at (omega (arith, slot.after)) slot.within
      (λ j from less. elim (cases_lt j q) [
        | inl low ↦ (let t = h.tree.together j q low (omega (arith, h.count, w)) (omega arith) in omega arith)
        | inr high ↦ elim (cases_lt q j) [
          | inl over ↦ (let b = slot.below j over less in omega arith)
          | inr same ↦ (let e : j ≡ q = omega arith in rw e (omega arith))
        ]
      ])
      (λ short.
      let low = end_low parents q at slot short in
      let t = h.tree.together q at slot.after short low in
      elim (cases_lt (get_or parents at 0) p) [
        | inl less ↦ less
        | inr high ↦ (let k = child_at i at lt (omega (arith, slot.after)) short (omega arith) in
            let l = (h.last i k.number k.behind (omega (arith, h.count, k.within)) k.under).1 in
            let f : get_or places (get_or lasts i 0) 0 ≡ q = ap (λ (m : ℕ). get_or places m 0) (sym is) in
            absurd (omega (arith, l, f, k.stands, slot.after)))
      ])

  pub record Ends (i l : ℕ) : Type 0 where
    pub within : l < length parents
    pub slot : IsSlot parents (get_or places i 0) (child_count parents (get_or places i 0)) (get_or places l 0 + 1)

  pub ends : (i l : ℕ) → i < length parents → IsLastOf lasts i l → Ends i l
  ends _ _ lt (itself i is) = record { within = lt; slot = leaf i lt is }
  ends _ _ lt (below i l other rest) =
      let c = h.child i lt other in
      let e = ends (get_or lasts i 0) l c.1 rest in
      record { within = e.within; slot = outer i (get_or lasts i 0) (get_or places l 0 + 1) lt c.0 c.1 c.2 refl e.slot }
