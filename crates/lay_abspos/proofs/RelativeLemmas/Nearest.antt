-- The nearest part of an inline box that held a box.
use Rattle.std.proofs.Common.{◌≡◌, inl, inr, ℕ, zero, suc, ◌+◌, ◌-◌, ◌<◌, ◌≤◌, true, false, List, [], ◌∷◌, ◌++◌, length, take, replicate, get_or, refl, ap, sym, subst, ◌∙◌, arith, Option, None, Some, MatchOption}
use Rattle.std.proofs.lemmas.Bool.{cases_lt, both_ways}
use Rattle.std.proofs.lemmas.List.{length-replicate}
use Rattle.std.proofs.lemmas.Grind.{elements}
use Rattle.lay_doc.specs.Tree.{IsTree, IsUnder}
use Rattle.lay_box_tree.specs.BoxColumns.{box_parents}
use Rattle.lay_box_tree.specs.Containers.{box_parent}
use Rattle.lay_box_tree.specs.declared.box_tree.BoxNode.{BoxNode}
use Rattle.lay_box_tree.specs.InlineParts.{id_at, is_inline_at, is_part_at}
use Rattle.lay_abspos.specs.Relative.FormerParents.{AreFormerParents, IsFormerParent, OneFormerParent, WasIn}
use Rattle.lay_abspos.specs.Relative.OpenParts.{AreNextPlaces, AreOpen, GoesOn, IsNextTo, IsOver}
use Rattle.lay_abspos.specs.Relative.SubtreeEnds.{IsEnd}
use Rattle.lay_abspos.proofs.RelativeLemmas.Ends.{in-end, out-end}

pub one_former_parent : OneFormerParent
one_former_parent boxes k None None h g = refl
one_former_parent boxes k None (Some p) h g = absurd (h p g.0)
one_former_parent boxes k (Some p) None h g = absurd (g p h.0)
one_former_parent boxes k (Some p) (Some q) h g = ap Some (let a = h.1 q g.0 in let b = g.1 p h.0 in omega (arith, a, b))

part-within : (boxes : List BoxNode) (id k : ℕ) → is_part_at boxes id k ≡ true → k < length boxes
part-within [] id k h = cc
part-within (b ∷ bs) id zero h = omega arith
part-within (b ∷ bs) id (suc k) h = let r = part-within bs id k h in omega (arith, r)

module _ (boxes : List BoxNode) (tree : IsTree (box_parents boxes)) (next : List ℕ) (nexts : AreNextPlaces boxes next) where
  -- the next part is the only one
  next-is : (p k : ℕ) → WasIn boxes p k → (q : ℕ) → IsNextTo boxes (length boxes) p q → (was : WasIn boxes p k) → was.next ≡ q
  next-is p k h q (inl none) was =
      let a = was.before in
      let b = was.behind in
      absurd (both_ways (is_part_at boxes (id_at boxes p) was.next) (none.1 was.next (omega (arith, a, b)) (part-within boxes (id_at boxes p) was.next was.same)) was.same)
  next-is p k h q (inr some) was =
      let a = was.before in
      let b = was.behind in
      elim (cases_lt was.next q) [
        | inl low ↦ absurd (both_ways (is_part_at boxes (id_at boxes p) was.next) (some.3 was.next (omega (arith, a, b)) low) was.same)
        | inr high ↦ elim (cases_lt q was.next) [
          | inl over ↦ absurd (both_ways (is_part_at boxes (id_at boxes p) q) (was.first q some.0 over) some.2)
          | inr under ↦ omega (arith, high, under)
        ]
      ]

  -- a part whose next one stands before the end of a box has held none from that box on
  pub over : (k e p : ℕ) → p < k → k < length boxes → IsEnd boxes k e → is_inline_at boxes p ≡ true → get_or next p 0 < e → IsOver boxes k p
  over k e p before within end part less j from lt was =
      let q = was.next in
      let is = next-is p j was (get_or next p 0) (nexts.each p (omega (arith, before, within)) part) was in
      let behind = was.behind in
      let beside = was.beside in
      elim (cases_lt k j) [
        | inl more ↦ elim (cases_lt j e) [
          | inl inside ↦ (let u = end.inside j more inside in omega (arith, u, beside, before))
          | inr out ↦ omega (arith, out, behind, is, less)
        ]
        | inr upto ↦ (let here : j ≡ k = omega (arith, from, upto) in
            let high : k < q = omega (arith, here, behind) in
            was_out here (in-end boxes tree k e end q q (omega arith) (omega (arith, high)) (omega (arith, is, less))))
      ]
    where
      was_out : j ≡ k → IsUnder (box_parents boxes) k was.next → ⊥
      was_out here under = was.outside (subst (λ (x : ℕ). IsUnder (box_parents boxes) x was.next) (sym here) under)

  -- without the topmost
  take-read : (xs : List ℕ) (n i : ℕ) → i < n → get_or (take n xs) i 0 ≡ get_or xs i 0
  take-read xs zero i lt = absurd (omega (arith, lt))
  take-read [] (suc n) i lt = refl
  take-read (x ∷ xs) (suc n) zero lt = refl
  take-read (x ∷ xs) (suc n) (suc i) lt = take-read xs n i (omega (arith, lt))

  length-take-less : (xs : List ℕ) (n : ℕ) → n ≤ length xs → length (take n xs) ≡ n
  length-take-less xs zero le = refl
  length-take-less [] (suc n) le = absurd (omega (arith, le))
  length-take-less (x ∷ xs) (suc n) le = let e = length-take-less xs n (omega (arith, le)) in omega (arith, e)

  pub popped : (k e : ℕ) (xs : List ℕ) → k < length boxes → IsEnd boxes k e → AreOpen boxes k xs → (i : ℕ) → i + 1 ≡ length xs → get_or next (get_or xs i 0) 0 < e → AreOpen boxes k (take i xs)
  popped k e xs within end h i top less =
      let count = length-take-less xs i (omega (arith, top)) in
      record {
        each = λ j lt. (let r = take-read xs i j (omega (arith, lt, count)) in rw r (h.each j (omega (arith, lt, count, top))));
        rising = λ j m less_than lt. (
            let r = take-read xs i j (omega (arith, lt, count, less_than)) in
            let s = take-read xs i m (omega (arith, lt, count)) in
            rw (r, s) (h.rising j m less_than (omega (arith, lt, count, top))));
        all = λ p before part. elim (h.all p before part) [
          | inl found ↦ elim (cases_lt found.0 i) [
            | inl low ↦ (let r = take-read xs i found.0 low in inl (found.0, (omega (arith, low, count)), r ∙ found.2))
            | inr high ↦ (
                let w = found.1 in
                let same : found.0 ≡ i = omega (arith, high, w, top) in
                let q : get_or xs i 0 ≡ p = sym (ap (λ (x : ℕ). get_or xs x 0) same) ∙ found.2 in
                inr (over k e p before within end part (subst (λ (x : ℕ). get_or next x 0 < e) q less)))
          ]
          | inr gone ↦ inr gone
        ];
      }

  -- the topmost one that goes on is the nearest that can have held the box
  in-open : (k : ℕ) (xs : List ℕ) → k < length boxes → AreOpen boxes k xs → (p : ℕ) → WasIn boxes p k → (i : ℕ) × (i < length xs) × (get_or xs i 0 ≡ p)
  in-open k xs within h p was = elim (h.all p was.before was.part) [
    | inl found ↦ found
    | inr gone ↦ absurd (gone k (omega arith) within was)
  ]

  at-most-top : (k : ℕ) (xs : List ℕ) → AreOpen boxes k xs → (i j : ℕ) → i + 1 ≡ length xs → j < length xs → get_or xs j 0 ≤ get_or xs i 0
  at-most-top k xs h i j top lt = elim (cases_lt j i) [
    | inl low ↦ (let r = h.rising j i low (omega (arith, top)) in omega (arith, r))
    | inr high ↦ (let same : j ≡ i = omega (arith, high, lt, top) in rw same (omega arith))
  ]

  pub nearest-is : (k e : ℕ) (xs : List ℕ) → k < length boxes → IsEnd boxes k e → AreOpen boxes k xs → GoesOn next xs e → (o : Option ℕ)
      → MatchOption o ((i : ℕ) → i + 1 ≡ length xs → get_or xs i 0 ≤ box_parent boxes k) (λ p. (i : ℕ) × (i + 1 ≡ length xs) × (get_or xs i 0 ≡ p) × (box_parent boxes k < p))
      → IsFormerParent boxes k o
  nearest-is k e xs within end h goes None none = λ p was.
      (let f = in-open k xs within h p was in
      let lt = f.1 in
      let i : ℕ = length xs - 1 in
      let top : i + 1 ≡ length xs = omega (arith, lt) in
      let a = at-most-top k xs h i f.0 top lt in
      let b = none i top in
      let c = f.2 in
      let d = was.beside in
      omega (arith, a, b, c, d))
  nearest-is k e xs within end h goes (Some p) (i, top, is, beside) = (held, nearest)
    where
      open_p : (p < k) × (is_inline_at boxes p ≡ true)
      open_p = subst (λ (x : ℕ). (x < k) × (is_inline_at boxes x ≡ true)) is (h.each i (omega (arith, top)))

      goes_on : e ≤ get_or next p 0
      goes_on = subst (λ (x : ℕ). e ≤ get_or next x 0) is (goes i top)

      held_by : IsNextTo boxes (length boxes) p (get_or next p 0) → WasIn boxes p k
      held_by (inl none) = absurd (let z = none.0 in let a = end.after in omega (arith, z, a, goes_on))
      held_by (inr some) = record {
        part = open_p.1;
        before = open_p.0;
        beside = beside;
        next = get_or next p 0;
        behind = (let a = end.after in omega (arith, a, goes_on));
        same = some.2;
        first = some.3;
        outside = λ under. (let o = out-end boxes tree k e (get_or next p 0) end under some.1 in omega (arith, o, goes_on));
      }

      held : WasIn boxes p k
      held = held_by (nexts.each p (let lt = open_p.0 in omega (arith, lt, within)) open_p.1)

      nearest : (r : ℕ) → WasIn boxes r k → r ≤ p
      nearest r was = (
          let f = in-open k xs within h r was in
          let a = at-most-top k xs h i f.0 top f.1 in
          let b = f.2 in
          omega (arith, a, b, is))

-- one box more
pub over-later : (boxes : List BoxNode) (k p : ℕ) → IsOver boxes k p → IsOver boxes (k + 1) p
over-later boxes k p h = λ j from lt. h j (omega (arith, from)) lt

push-read : (xs : List ℕ) (k i : ℕ) → i < length xs → get_or (xs ++ k ∷ []) i 0 ≡ get_or xs i 0
push-read xs k i lt = grind (arith, elements)

push-last : (xs : List ℕ) (k i : ℕ) → i ≡ length xs → get_or (xs ++ k ∷ []) i 0 ≡ k
push-last xs k i e = grind (arith, elements)

length-push : (xs : List ℕ) (k : ℕ) → length (xs ++ k ∷ []) ≡ length xs + 1
length-push [] k = omega arith
length-push (x ∷ xs) k = let e = length-push xs k in omega (arith, e)

pub pushed : (boxes : List BoxNode) (k : ℕ) (xs : List ℕ) → is_inline_at boxes k ≡ true → AreOpen boxes k xs → AreOpen boxes (k + 1) (xs ++ k ∷ [])
pushed boxes k xs part h =
    let n = length-push xs k in
    record {
      each = λ i lt. elim (cases_lt i (length xs)) [
        | inl low ↦ (let r = push-read xs k i low in let e = h.each i low in let b = e.0 in (rw r (omega (arith, b)), rw r e.1))
        | inr high ↦ (let r = push-last xs k i (omega (arith, high, lt, n)) in (rw r (omega arith), rw r part))
      ];
      rising = λ i j less lt. elim (cases_lt j (length xs)) [
        | inl low ↦ (let r = push-read xs k i (omega (arith, less, low)) in let s = push-read xs k j low in rw (r, s) (h.rising i j less low))
        | inr high ↦ (
            let s = push-last xs k j (omega (arith, high, lt, n)) in
            let r = push-read xs k i (omega (arith, less, high, lt, n)) in
            rw (r, s) (h.each i (omega (arith, less, high, lt, n))).0)
      ];
      all = λ p before is. elim (cases_lt p k) [
        | inl low ↦ elim (h.all p low is) [
          | inl found ↦ (let r = push-read xs k found.0 found.1 in let w = found.1 in inl (found.0, (omega (arith, w, n)), r ∙ found.2))
          | inr gone ↦ inr (over-later boxes k p gone)
        ]
        | inr high ↦ (let same : p ≡ k = omega (arith, before, high) in inl (length xs, (omega (arith, n)), push-last xs k (length xs) refl ∙ sym same))
      ];
    }

pub passed : (boxes : List BoxNode) (k : ℕ) (xs : List ℕ) → is_inline_at boxes k ≡ false → AreOpen boxes k xs → AreOpen boxes (k + 1) xs
passed boxes k xs none h = record {
  each = λ i lt. (let e = h.each i lt in let b = e.0 in (omega (arith, b), e.1));
  rising = h.rising;
  all = λ p before is. elim (cases_lt p k) [
    | inl low ↦ elim (h.all p low is) [ inl found ↦ inl found | inr gone ↦ inr (over-later boxes k p gone) ]
    | inr high ↦ (let same : p ≡ k = omega (arith, before, high) in absurd (both_ways (is_inline_at boxes k) none (subst (λ (x : ℕ). is_inline_at boxes x ≡ true) same is)))
  ];
}

pub none-open : (boxes : List BoxNode) → AreOpen boxes 0 []
none-open boxes = record {
  each = λ i lt. absurd (omega (arith, lt));
  rising = λ i j less lt. absurd (omega (arith, lt));
  all = λ p before is. absurd (omega (arith, before));
}

-- no inline box held any box where there is none
none_there : (n k : ℕ) → get_or (replicate {A = Option ℕ} n None) k None ≡ None
none_there zero k = refl
none_there (suc n) zero = refl
none_there (suc n) (suc k) = none_there n k

pub none_broken : (boxes : List BoxNode) (parents : List (Option ℕ)) → parents ≡ replicate (length boxes) None
    → ((k : ℕ) → k < length boxes → is_inline_at boxes k ≡ false) → AreFormerParents boxes parents
none_broken boxes parents e none = rw e (record {
  count = length-replicate (length boxes) None;
  each = λ k lt. rw (none_there (length boxes) k) (λ p was. both_ways (is_inline_at boxes p) (none p (let before = was.before in omega (arith, before, lt))) was.part);
})
