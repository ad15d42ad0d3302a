-- What held each box before blocks broke it, there is always one such list.
use Rattle.std.proofs.Common.{◌≡◌, ◌⊎◌, inl, inr, ℕ, zero, suc, ◌<◌, ◌≤◌, true, false, List, [], ◌∷◌, ◌++◌, length, slice_index_or, refl, subst, sym, arith, Option, None, Some}
use Rattle.std.proofs.lemmas.Bool.{cases_lt, cases_Bool, both_ways}
use Rattle.std.proofs.lemmas.List.{length_push}
use Rattle.lay_doc.specs.Tree.{IsTree, IsUnder, end_of}
use Rattle.lay_abspos.proofs.Cited.{has_subtree_lem, length-parents}
use Rattle.lay_box_tree.specs.BoxColumns.{box_parents}
use Rattle.lay_box_tree.specs.Containers.{box_parent}
use Rattle.lay_box_tree.specs.declared.box_tree.BoxNode.{BoxNode}
use Rattle.lay_box_tree.specs.InlineParts.{id_at, is_inline_at, is_part_at}
use Rattle.lay_abspos.specs.Relative.FormerParents.{AreFormerParents, IsFormerParent, WasIn}
use Rattle.lay_abspos.proofs.RelativeLemmas.Ends.{each-longer}

part_within : (boxes : List BoxNode) (id k : ℕ) → is_part_at boxes id k ≡ true → k < length boxes
part_within [] id k is = cc
part_within (b ∷ bs) id zero is = omega arith
part_within (b ∷ bs) id (suc k) is = let within = part_within bs id k is in omega (arith, within)

-- the next part behind p, before n
record Next (boxes : List BoxNode) (id p n : ℕ) : Type 0 where
  at : ℕ
  behind : p < at
  before : at < n
  part : is_part_at boxes id at ≡ true
  first : (j : ℕ) → p < j → j < at → is_part_at boxes id j ≡ false

abbrev NoNext : (boxes : List BoxNode) (id p n : ℕ) → Type 0
NoNext boxes id p n = (j : ℕ) → p < j → j < n → is_part_at boxes id j ≡ false

module _ (boxes : List BoxNode) (id p : ℕ) where
  none_more : (n : ℕ) → NoNext boxes id p n → (p < n → is_part_at boxes id n ≡ false) → NoNext boxes id p (suc n)
  none_more n none here j behind before = elim (cases_lt j n) [
    | inl low ↦ none j behind low
    | inr high ↦ (let is : j ≡ n = omega (arith, high, before) in rw is (here (rw is at behind)))
  ]

  next_before : (n : ℕ) → Next boxes id p n ⊎ NoNext boxes id p n
  next_before zero = inr (λ j behind before. absurd (omega (arith, before)))
  next_before (suc n) = elim (next_before n) [
    | inl found ↦ inl (record { at = found.at; behind = found.behind; before = (let b = found.before in omega (arith, b)); part = found.part; first = found.first })
    | inr none ↦ elim (cases_lt p n) [
      | inl low ↦ elim (cases_Bool (is_part_at boxes id n)) [
        | inl is ↦ inl (record { at = n; behind = low; before = omega arith; part = is; first = none })
        | inr not ↦ inr (none_more n none (λ behind. not))
      ]
      | inr high ↦ inr (none_more n none (λ behind. absurd (omega (arith, high, behind))))
    ]
  ]

-- a next part is the only one
same_next : (boxes : List BoxNode) (id p n at : ℕ) → (next : Next boxes id p n) → p < at → is_part_at boxes id at ≡ true → ((j : ℕ) → p < j → j < at → is_part_at boxes id j ≡ false) → at ≡ next.at
same_next boxes id p n at next behind part first = elim (cases_lt at next.at) [
  | inl low ↦ absurd (both_ways (is_part_at boxes id at) (next.first at behind low) part)
  | inr high ↦ elim (cases_lt next.at at) [
    | inl more ↦ absurd (both_ways (is_part_at boxes id next.at) (first next.at next.behind more) next.part)
    | inr less ↦ omega (arith, high, less)
  ]
]

module _ (boxes : List BoxNode) (tree : IsTree (box_parents boxes)) (k : ℕ) (within : k < length boxes) where
  abbrev inside : ℕ → Type 0
  inside n = IsUnder (box_parents boxes) k n

  under : (n : ℕ) → n < length boxes → inside n ⊎ (inside n → ⊥)
  under n lt =
      let count = length-parents boxes in
      let is = has_subtree_lem (box_parents boxes) k n tree (omega (arith, within, count)) (omega (arith, lt, count)) in
      elim (cases_lt n k) [
        | inl low ↦ inr (λ u. let r = (is.0 u).0 in omega (arith, r, low))
        | inr high ↦ elim (cases_lt n (end_of (box_parents boxes) k)) [
          | inl less ↦ inl (is.1 (omega (arith, high), less))
          | inr more ↦ inr (λ u. let r = (is.0 u).1 in omega (arith, r, more))
        ]
      ]

  -- with what is known of the next part
  was_by : (p : ℕ) → is_inline_at boxes p ≡ true → p < k → box_parent boxes k < p → Next boxes (id_at boxes p) p (length boxes) ⊎ NoNext boxes (id_at boxes p) p (length boxes)
      → WasIn boxes p k ⊎ (WasIn boxes p k → ⊥)
  was_by p part before beside (inr none) =
      inr (λ w. both_ways (is_part_at boxes (id_at boxes p) w.next) (let b = w.behind in none w.next (omega (arith, b, before)) (part_within boxes (id_at boxes p) w.next w.same)) w.same)
  was_by p part before beside (inl next) =
      let is : (w : WasIn boxes p k) → w.next ≡ next.at = λ w. let b = w.behind in same_next boxes (id_at boxes p) p (length boxes) w.next next (omega (arith, b, before)) w.same w.first in
      elim (cases_lt k next.at) [
        | inr high ↦ inr (λ w. let b = w.behind in let same = is w in omega (arith, b, same, high))
        | inl low ↦ elim (under next.at next.before) [
          | inl u ↦ inr (λ w. w.outside (subst inside (sym (is w)) u))
          | inr out ↦ inl (record { part = part; before = before; beside = beside; next = next.at; behind = low; same = next.part; first = next.first; outside = out })
        ]
      ]

  was : (p : ℕ) → WasIn boxes p k ⊎ (WasIn boxes p k → ⊥)
  was p = elim (cases_Bool (is_inline_at boxes p)) [
    | inr not ↦ inr (λ w. both_ways (is_inline_at boxes p) not w.part)
    | inl part ↦ elim (cases_lt p k) [
      | inr high ↦ inr (λ w. let b = w.before in omega (arith, b, high))
      | inl before ↦ elim (cases_lt (box_parent boxes k) p) [
        | inr high ↦ inr (λ w. let b = w.beside in omega (arith, b, high))
        | inl beside ↦ was_by p part before beside (next_before boxes (id_at boxes p) p (length boxes))
      ]
    ]
  ]

  -- the nearest part before n
  abbrev Nearest : ℕ → ℕ → Type 0
  Nearest n p = WasIn boxes p k × ((r : ℕ) → r < n → WasIn boxes r k → r ≤ p)

  abbrev NoneBefore : ℕ → Type 0
  NoneBefore n = (r : ℕ) → r < n → WasIn boxes r k → ⊥

  nearest_or_none : (n : ℕ) → ((p : ℕ) × Nearest n p) ⊎ NoneBefore n
  nearest_or_none zero = inr (λ r lt w. absurd (omega (arith, lt)))
  nearest_or_none (suc n) = elim (was n) [
    | inl w ↦ inl (n, (w, λ r lt _. omega (arith, lt)))
    | inr not ↦ elim (nearest_or_none n) [
      | inl near ↦ inl (
        near.0,
        (
          near.1.0,
          λ r lt w. elim (cases_lt r n) [
            | inl low ↦ near.1.1 r low w
            | inr high ↦ (let is : r ≡ n = omega (arith, lt, high) in absurd (not (subst (λ x. WasIn boxes x k) is w)))
          ],
        ),
      )
      | inr none ↦ inr (λ r lt w. elim (cases_lt r n) [
        | inl low ↦ none r low w
        | inr high ↦ (let is : r ≡ n = omega (arith, lt, high) in not (subst (λ x. WasIn boxes x k) is w))
      ])
    ]
  ]

  some_former : (o : Option ℕ) × IsFormerParent boxes k o
  some_former = elim (nearest_or_none k) [
    | inl near ↦ (Some near.0, (near.1.0, λ r w. near.1.1 r w.before w))
    | inr none ↦ (None, λ r w. none r w.before w)
  ]

-- those of the first n boxes
record FormersTo (boxes : List BoxNode) (n : ℕ) : Type 0 where
  formers : List (Option ℕ)
  count : length formers ≡ n
  each : (k : ℕ) → k < n → IsFormerParent boxes k (slice_index_or formers k None)

formers_to : (boxes : List BoxNode) → IsTree (box_parents boxes) → (n : ℕ) → n ≤ length boxes → FormersTo boxes n
formers_to boxes tree zero le = record { formers = []; count = refl; each = λ k lt. absurd (omega (arith, lt)) }
formers_to boxes tree (suc n) le =
    let so_far = formers_to boxes tree n (omega (arith, le)) in
    let next = some_former boxes tree n (omega (arith, le)) in
    let counted = so_far.count in
    let longer = length_push so_far.formers next.0 in
    record {
      formers = so_far.formers ++ next.0 ∷ [];
      count = omega (arith, counted, longer);
      each = λ k lt. each-longer (IsFormerParent boxes) so_far.formers next.0 None n so_far.count so_far.each next.1 k (omega (arith, lt));
    }

pub some_formers : (boxes : List BoxNode) → IsTree (box_parents boxes) → (formers : List (Option ℕ)) × AreFormerParents boxes formers
some_formers boxes tree = let all = formers_to boxes tree (length boxes) (omega arith) in (all.formers, record { count = all.count; each = all.each })
