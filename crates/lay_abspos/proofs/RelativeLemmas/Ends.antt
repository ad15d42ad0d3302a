-- Where boxes end.
use Rattle.std.proofs.Common.{◌≡◌, ◌⊎◌, inl, inr, ℕ, zero, suc, ◌+◌, ◌-◌, ◌<◌, ◌≤◌, List, [], ◌∷◌, ◌++◌, length, set, get_or, replicate, refl, sym, subst, arith, get_or-set_other, get_or-set_same}
use Rattle.std.proofs.lemmas.Bool.{cases_lt}
use Rattle.lay_doc.specs.Tree.{IsTree, IsUnder, itself, child}
use Rattle.lay_box_tree.specs.BoxColumns.{box_parents}
use Rattle.lay_box_tree.specs.Containers.{box_parent}
use Rattle.lay_box_tree.specs.declared.box_tree.BoxNode.{BoxNode}
use Rattle.lay_abspos.proofs.Cited.{length-parents}
use Rattle.lay_abspos.specs.Relative.SubtreeEnds.{AreEnds, AreEndsTo, IsEnd, IsOpenTo}

-- the boxes that end at k have it, from the one behind `at` on
pub record Closing (boxes : List BoxNode) (ends : List ℕ) (k at : ℕ) : Type 0 where
  pub low : box_parent boxes k ≤ at
  pub high : at < k
  pub under : (j : ℕ) → at < j → j < k → at ≤ box_parent boxes j
  pub count : length ends ≡ length boxes
  pub closed : (j : ℕ) → at < j → j < k → IsEnd boxes j (get_or ends j 0)
  pub rest : (j : ℕ) → j < length boxes → (j ≤ at) ⊎ (k ≤ j) → IsEnd boxes j (get_or ends j 0) ⊎ IsOpenTo boxes k j (get_or ends j 0)

module _ (boxes : List BoxNode) (tree : IsTree (box_parents boxes)) where
  pub begin : (ends : List ℕ) (k : ℕ) → 0 < k → k < length boxes → AreEndsTo boxes ends k → Closing boxes ends k (k - 1)
  begin ends k positive lt h =
      let b = tree.before k positive (let l = length-parents boxes in omega (arith, lt, l)) in
      record {
        low = omega (arith, b);
        high = omega (arith, positive);
        under = λ j after before. absurd (omega (arith, after, before));
        count = h.count;
        closed = λ j after before. absurd (omega (arith, after, before));
        rest = λ j within side. h.each j within;
      }

  other : (ends : List ℕ) (t k j : ℕ) → (j ≡ t → ⊥) → get_or (set ends t k) j 0 ≡ get_or ends j 0
  other ends t k j ne = grind (arith, ne, get_or-set_other)

  this : (ends : List ℕ) (t k : ℕ) → t < length ends → get_or (set ends t k) t 0 ≡ k
  this ends t k lt = grind (arith, lt, get_or-set_same)

  length-set : (ends : List ℕ) (t k : ℕ) → length (set ends t k) ≡ length ends
  length-set [] t k = refl
  length-set (x ∷ xs) zero k = refl
  length-set (x ∷ xs) (suc t) k = let e = length-set xs t k in omega (arith, e)

  pub step : (ends : List ℕ) (k t : ℕ) → k < length boxes → Closing boxes ends k t → box_parent boxes k < t → Closing boxes (set ends t k) k (box_parent boxes t)
  step ends k t lt h more =
      let len = length-parents boxes in
      let high = h.high in
      let b = tree.before t (omega (arith, more)) (omega (arith, len, high, lt)) in
      let low = tree.together t k high (omega (arith, len, lt)) more in
      let count = h.count in
      record {
        low = low;
        high = omega (arith, b, high);
        under = λ j after before. elim (cases_lt t j) [
          | inl over ↦ (let u = h.under j over before in omega (arith, u, b))
          | inr under ↦ elim (cases_lt j t) [
            | inl less ↦ tree.together j t less (omega (arith, len, high, lt)) after
            | inr same ↦ (let e : j ≡ t = omega (arith, under, same) in rw e (omega arith))
          ]
        ];
        count = (let s = length-set ends t k in omega (arith, s, count));
        closed = λ j after before. elim (cases_lt t j) [
          | inl over ↦ (let e = other ends t k j (λ q. omega (arith, q, over)) in subst (IsEnd boxes j) (sym e) (h.closed j over before))
          | inr under ↦ elim (cases_lt j t) [
            | inl less ↦ (let e = other ends t k j (λ q. omega (arith, q, less)) in subst (IsEnd boxes j) (sym e) (elim (h.rest j (omega (arith, before, lt)) (inl under)) [
              | inl done ↦ done
              | inr unshut ↦ absurd (let u = unshut.1 t less high in omega (arith, u, after))
            ]))
            | inr same ↦ (let q : j ≡ t = omega (arith, under, same) in let e = this ends t k (omega (arith, count, high, lt)) in rw (q, e) (record {
              after = high;
              within = omega (arith, lt);
              inside = h.under;
              next = λ w. more;
            }))
          ]
        ];
        rest = λ j within side. (let ne : j ≡ t → ⊥ = elim side [ inl le ↦ (λ q. omega (arith, le, b, q)) | inr ge ↦ (λ q. omega (arith, ge, high, q)) ] in
            let e = other ends t k j ne in
            let wide : (j ≤ t) ⊎ (k ≤ j) = elim side [ inl le ↦ inl (omega (arith, le, b)) | inr ge ↦ inr ge ] in
            subst (λ (x : ℕ). IsEnd boxes j x ⊎ IsOpenTo boxes k j x) (sym e) (h.rest j within wide));
      }

  pub finish : (ends : List ℕ) (k t : ℕ) → Closing boxes ends k t → t ≤ box_parent boxes k → AreEndsTo boxes ends (k + 1)
  finish ends k t h le = record {
    count = h.count;
    each = λ j within. elim (cases_lt t j) [
      | inl over ↦ elim (cases_lt j k) [
        | inl before ↦ inl (h.closed j over before)
        | inr behind ↦ elim (h.rest j within (inr behind)) [
          | inl done ↦ inl done
          | inr unshut ↦ inr (unshut.0, λ i after before. absurd (omega (arith, after, before, behind)))
        ]
      ]
      | inr under ↦ elim (h.rest j within (inl under)) [
        | inl done ↦ inl done
        | inr unshut ↦ inr (
          unshut.0,
          λ i after before. elim (cases_lt i k) [
            | inl less ↦ unshut.1 i after less
            | inr same ↦ (let e : i ≡ k = omega (arith, before, same) in let low = h.low in rw e (omega (arith, under, low)))
          ],
        )
      ]
    ];
  }

  pub at-end : (ends : List ℕ) (k : ℕ) → length boxes ≤ k → AreEndsTo boxes ends k → AreEnds boxes ends
  at-end ends k le h = record {
    count = h.count;
    each = λ j within. elim (h.each j within) [
      | inl done ↦ done
      | inr unshut ↦ (let e = unshut.0 in record {
        after = omega (arith, e, within);
        within = omega (arith, e);
        inside = λ i after before. unshut.1 i after (omega (arith, before, e, le));
        next = λ more. absurd (omega (arith, more, e));
      })
    ];
  }

  read : (n x j : ℕ) → j < n → get_or (replicate n x) j 0 ≡ x
  read zero x j lt = absurd (omega (arith, lt))
  read (suc n) x zero lt = refl
  read (suc n) x (suc j) lt = read n x j (omega (arith, lt))

  length-replicate : (n x : ℕ) → length (replicate n x) ≡ n
  length-replicate zero x = refl
  length-replicate (suc n) x = let e = length-replicate n x in omega (arith, e)

  pub start : AreEndsTo boxes (replicate (length boxes) (length boxes)) 1
  start = record {
    count = length-replicate (length boxes) (length boxes);
    each = λ j within. inr (read (length boxes) (length boxes) j within, λ i after before. absurd (omega (arith, after, before)));
  }

  -- what is before the end of a box is in it, and nothing else
  pub in-end : (k e : ℕ) → IsEnd boxes k e → (d q : ℕ) → q ≤ k + d → k ≤ q → q < e → IsUnder (box_parents boxes) k q
  in-end k e h zero q le from lt = let same : q ≡ k = omega (arith, le, from) in rw same itself
  in-end k e h (suc d) q le from lt = elim (cases_lt k q) [
    | inl more ↦ (
        let w = h.within in
        let b = tree.before q (omega (arith, more)) (let l = length-parents boxes in omega (arith, l, lt, w)) in
        let up = h.inside q more lt in
        child q (omega (arith, more)) (in-end k e h d (box_parent boxes q) (omega (arith, b, le)) up (omega (arith, b, lt))))
    | inr same ↦ (let is : q ≡ k = omega (arith, same, from) in rw is itself)
  ]

  pub from-under : (k q : ℕ) → IsUnder (box_parents boxes) k q → q < length boxes → k ≤ q
  from-under k q itself lt = omega arith
  from-under k q (child j positive h) lt =
      let b = tree.before j positive (let l = length-parents boxes in omega (arith, l, lt)) in
      let r = from-under k (box_parent boxes j) h (omega (arith, b, lt)) in
      omega (arith, b, r)

  pub out-end : (k e q : ℕ) → IsEnd boxes k e → IsUnder (box_parents boxes) k q → q < length boxes → q < e
  out-end k e q h itself lt = h.after
  out-end k e q h (child j positive up) lt =
      let len = length-parents boxes in
      let b = tree.before j positive (omega (arith, len, lt)) in
      let r = out-end k e (box_parent boxes j) h up (omega (arith, b, lt)) in
      let from = from-under k (box_parent boxes j) up (omega (arith, b, lt)) in
      elim (cases_lt j e) [
        | inl less ↦ less
        | inr more ↦ absurd (elim (cases_lt e j) [
          | inl over ↦ (let t = tree.together e j over (omega (arith, len, lt)) r in let n = h.next (omega (arith, over, lt)) in omega (arith, t, n, from))
          | inr same ↦ (let is : j ≡ e = omega (arith, more, same) in let n = h.next (omega (arith, is, lt)) in let u = subst (λ (x : ℕ). k ≤ box_parent boxes x) is from in omega (arith, n, u))
        ])
      ]

read-longer : {X : Type 0} (xs : List X) (x d : X) (i : ℕ) → i < length xs → get_or (xs ++ x ∷ []) i d ≡ get_or xs i d
read-longer [] x d i lt = absurd (omega (arith, lt))
read-longer (y ∷ ys) x d zero lt = refl
read-longer (y ∷ ys) x d (suc i) lt = read-longer ys x d i (omega (arith, lt))

read-end : {X : Type 0} (xs : List X) (x d : X) (i : ℕ) → i ≡ length xs → get_or (xs ++ x ∷ []) i d ≡ x
read-end [] x d zero e = refl
read-end [] x d (suc i) e = absurd (omega (arith, e))
read-end (y ∷ ys) x d zero e = absurd (omega (arith, e))
read-end (y ∷ ys) x d (suc i) e = read-end ys x d i (omega (arith, e))

pub each-longer : {X : Type 0} (P : ℕ → X → Type 0) (xs : List X) (x d : X) (n : ℕ) → length xs ≡ n → ((j : ℕ) → j < n → P j (get_or xs j d)) → P n x
    → (j : ℕ) → j < n + 1 → P j (get_or (xs ++ x ∷ []) j d)
each-longer P xs x d n count each more j lt = elim (cases_lt j n) [
  | inl low ↦ subst (P j) (sym (read-longer xs x d j (omega (arith, low, count)))) (each j low)
  | inr high ↦ (
      let is : j ≡ n = omega (arith, lt, high) in
      subst (P j) (sym (read-end xs x d j (omega (arith, is, count)))) (subst (λ (i : ℕ). P i x) (sym is) more))
]
