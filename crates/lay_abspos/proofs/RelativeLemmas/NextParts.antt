-- The next part of each part of an inline box, one box more at a time.
use Rattle.std.proofs.Common.{◌≡◌, inl, inr, ℕ, zero, suc, ◌+◌, ◌<◌, ◌≤◌, true, false, List, [], ◌∷◌, length, set, get_or, replicate, refl, sym, subst, arith, None, Some, get_or-set_other, get_or-set_same}
use Rattle.std.proofs.lemmas.Bool.{cases_lt, cases_eq, both_ways}
use Rattle.lay_box_tree.specs.declared.box_tree.BoxNode.{BoxNode}
use Rattle.lay_box_tree.specs.InlineParts.{id_at, is_inline_at, is_part_at}
use Rattle.lay_box_tree.specs.LatestParts.{IsLatest}
use Rattle.lay_abspos.proofs.Cited.{no-part, other-part}
use Rattle.lay_abspos.specs.Relative.OpenParts.{AreNextTo, IsNextTo}

-- a box more that is no further part
still : (boxes : List BoxNode) (n p q : ℕ) → IsNextTo boxes n p q → is_part_at boxes (id_at boxes p) n ≡ false → IsNextTo boxes (n + 1) p q
still boxes n p q (inl none) other = inl (
  none.0,
  λ j after lt. elim (cases_lt j n) [
    | inl low ↦ none.1 j after low
    | inr high ↦ (let e : j ≡ n = omega (arith, lt, high) in rw e other)
  ],
)
still boxes n p q (inr some) other = inr (some.0, (let lt = some.1 in omega (arith, lt)), some.2, some.3)

-- where the next one is known another part makes no difference
known : (boxes : List BoxNode) (n p q : ℕ) → (p < q) × (q < n) × (is_part_at boxes (id_at boxes p) q ≡ true) × ((j : ℕ) → p < j → j < q → is_part_at boxes (id_at boxes p) j ≡ false) → IsNextTo boxes (n + 1) p q
known boxes n p q some = inr (some.0, (let lt = some.1 in omega (arith, lt)), some.2, some.3)

pub none-noted : (boxes : List BoxNode) (next : List ℕ) (k : ℕ) → is_inline_at boxes k ≡ false → AreNextTo boxes next k → AreNextTo boxes next (k + 1)
none-noted boxes next k none h = record {
  count = h.count;
  each = λ p lt part. still boxes k p (get_or next p 0) (h.each p lt part) (no-part boxes (id_at boxes p) k none);
}

module _ (boxes : List BoxNode) (next : List ℕ) (k : ℕ) (within : k < length boxes) (part : is_inline_at boxes k ≡ true) (h : AreNextTo boxes next k) where
  -- a part that isn't the latest before another one of its inline box has its next one before that
  earlier-part : (p l : ℕ) → p < k → is_inline_at boxes p ≡ true → (id_at boxes p ≡ id_at boxes k) → IsLatest boxes k (id_at boxes k) (Some l) → (p ≡ l → ⊥)
      → IsNextTo boxes k p (get_or next p 0) → IsNextTo boxes (k + 1) p (get_or next p 0)
  earlier-part p l before is same latest differs (inr some) = known boxes k p (get_or next p 0) some
  earlier-part p l before is same latest differs (inl none) = absurd (elim (cases_lt p l) [
    | inl low ↦ both_ways (is_part_at boxes (id_at boxes p) l) (none.1 l low latest.0) (subst (λ (i : ℕ). is_part_at boxes i l ≡ true) (sym same) latest.1)
    | inr high ↦ elim (cases_lt l p) [
      | inl over ↦ both_ways (is_part_at boxes (id_at boxes k) p) (latest.2 p over before) (subst (λ (i : ℕ). is_part_at boxes i p ≡ true) same is)
      | inr under ↦ differs (omega (arith, high, under))
    ]
  ])

  behind : (p q : ℕ) → k ≤ p → IsNextTo boxes k p q → IsNextTo boxes (k + 1) p q
  behind p q from (inl none) = inl (none.0, λ j after lt. absurd (omega (arith, from, after, lt)))
  behind p q from (inr some) = known boxes k p q some

  none-before : (p : ℕ) → p < k → is_inline_at boxes p ≡ true → (id_at boxes p ≡ id_at boxes k) → IsLatest boxes k (id_at boxes k) None → ⊥
  none-before p before is same latest = both_ways (is_part_at boxes (id_at boxes k) p) (latest p before) (subst (λ (i : ℕ). is_part_at boxes i p ≡ true) same is)

  pub first-noted : IsLatest boxes k (id_at boxes k) None → AreNextTo boxes next (k + 1)
  first-noted latest = record {
    count = h.count;
    each = λ p lt is. elim (cases_lt p k) [
      | inl before ↦ elim (cases_eq (id_at boxes k) (id_at boxes p)) [
        | inl same ↦ absurd (none-before p before is (sym same) latest)
        | inr differs ↦ still boxes k p (get_or next p 0) (h.each p lt is) (other-part boxes (id_at boxes p) k differs)
      ]
      | inr from ↦ behind p (get_or next p 0) from (h.each p lt is)
    ];
  }

  length-set : (xs : List ℕ) (t x : ℕ) → length (set xs t x) ≡ length xs
  length-set [] t x = refl
  length-set (y ∷ ys) zero x = refl
  length-set (y ∷ ys) (suc t) x = let e = length-set ys t x in omega (arith, e)

  other : (xs : List ℕ) (t x j : ℕ) → (j ≡ t → ⊥) → get_or (set xs t x) j 0 ≡ get_or xs j 0
  other xs t x j ne = grind (arith, ne, get_or-set_other)

  this : (xs : List ℕ) (t x : ℕ) → t < length xs → get_or (set xs t x) t 0 ≡ x
  this xs t x lt = grind (arith, lt, get_or-set_same)

  elsewhere : (l p : ℕ) → (p ≡ l → ⊥) → IsLatest boxes k (id_at boxes k) (Some l) → p < length boxes → is_inline_at boxes p ≡ true → IsNextTo boxes (k + 1) p (get_or next p 0)
  elsewhere l p differs latest lt is = elim (cases_lt p k) [
    | inl before ↦ elim (cases_eq (id_at boxes k) (id_at boxes p)) [
      | inl same ↦ earlier-part p l before is (sym same) latest differs (h.each p lt is)
      | inr apart ↦ still boxes k p (get_or next p 0) (h.each p lt is) (other-part boxes (id_at boxes p) k apart)
    ]
    | inr from ↦ behind p (get_or next p 0) from (h.each p lt is)
  ]

  named : (xs : List BoxNode) (id i : ℕ) → is_part_at xs id i ≡ true → id_at xs i ≡ id
  named xs id i e = elim (cases_eq (id_at xs i) id) [
    | inl same ↦ same
    | inr differs ↦ absurd (both_ways (is_part_at xs id i) (other-part xs id i differs) e)
  ]

  pub further-noted : (l : ℕ) → IsLatest boxes k (id_at boxes k) (Some l) → AreNextTo boxes (set next l k) (k + 1)
  further-noted l latest =
      let count = h.count in
      let low = latest.0 in
      let same : id_at boxes l ≡ id_at boxes k = named boxes (id_at boxes k) l latest.1 in
      record {
        count = (let s = length-set next l k in omega (arith, s, count));
        each = λ p lt is. elim (cases_eq p l) [
          | inl e ↦ (
              let r = this next l k (omega (arith, count, low, within)) in
              let one : IsNextTo boxes (k + 1) l k = inr (
                low,
                omega arith,
                subst (λ (i : ℕ). is_part_at boxes i k ≡ true) (sym same) part,
                λ j after before. subst (λ (i : ℕ). is_part_at boxes i j ≡ false) (sym same) (latest.2 j after before),
              ) in
              rw (e, r) one)
          | inr differs ↦ (let r = other next l k p differs in rw r (elsewhere l p differs latest lt is))
        ];
      }

  pub within-next : (l : ℕ) → IsLatest boxes k (id_at boxes k) (Some l) → l < length next
  within-next l latest = let count = h.count in let low = latest.0 in omega (arith, count, low, within)

pub none-yet : (boxes : List BoxNode) → AreNextTo boxes (replicate (length boxes) 0) 0
none-yet boxes = record {
  count = length-replicate (length boxes);
  each = λ p lt is. inl (read (length boxes) p, λ j after before. absurd (omega (arith, before)));
}
  where
    length-replicate : (n : ℕ) → length {A = ℕ} (replicate n 0) ≡ n
    length-replicate zero = refl
    length-replicate (suc n) = let e = length-replicate n in omega (arith, e)

    read : (n j : ℕ) → ◌≡◌ {A = ℕ} (get_or (replicate n 0) j 0) 0
    read zero j = refl
    read (suc n) zero = refl
    read (suc n) (suc j) = read n j
