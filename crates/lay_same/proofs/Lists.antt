-- Lists that agree at each place are equal.
use Rattle.std.proofs.Common.{◌≡◌, ◌<◌, ◌+◌, ℕ, zero, suc, List, [], ◌∷◌, length, slice_get, slice_index_or, Some, refl, ap, sym, ◌∙◌, arith, inl, inr, ◌⊎◌}

last : (m k : ℕ) → m < k + 1 → (m < k) ⊎ (m ≡ k)
last zero zero lt = inr refl
last zero (suc k) lt = inl (omega arith)
last (suc m) zero lt = absurd (omega (arith, lt))
last (suc m) (suc k) lt = by (last m k (omega (arith, lt)))
  where
    by : (m < k) ⊎ (m ≡ k) → (suc m < suc k) ⊎ (suc m ≡ suc k)
    by (inl p) = inl (omega (arith, p))
    by (inr p) = inr (ap suc p)

module _ {X : Type 0} where
  head_same : (x y : X) → Some x ≡ Some y → x ≡ y
  head_same x y e = cc

  pub same_lists : (xs ys : List X) → length xs ≡ length ys → ((k : ℕ) → k < length xs → slice_get xs k ≡ slice_get ys k) → xs ≡ ys
  same_lists [] [] n same = refl
  same_lists [] (y ∷ ys) n same = absurd (omega (arith, n))
  same_lists (x ∷ xs) [] n same = absurd (omega (arith, n))
  same_lists (x ∷ xs) (y ∷ ys) n same =
      let head : x ≡ y = head_same x y (same 0 (omega arith)) in
      let rest : xs ≡ ys = same_lists xs ys (omega (arith, n)) (λ k lt. same (suc k) (omega (arith, lt))) in
      rw (head, rest) refl

  pub at_place : (xs : List X) (k : ℕ) (d : X) → k < length xs → slice_get xs k ≡ Some (slice_index_or xs k d)
  at_place [] k d lt = absurd (omega (arith, lt))
  at_place (x ∷ xs) zero d lt = refl
  at_place (x ∷ xs) (suc k) d lt = at_place xs k d (omega (arith, lt))

  at_or : (xs ys : List X) (k m : ℕ) → ((n : ℕ) → n < k → slice_get xs n ≡ slice_get ys n) → slice_get xs k ≡ slice_get ys k → (m < k) ⊎ (m ≡ k) → slice_get xs m ≡ slice_get ys m
  at_or xs ys k m before here (inl p) = before m p
  at_or xs ys k m before here (inr p) = rw p here

  pub one_more : (xs ys : List X) (k : ℕ) (x y : X) → ((n : ℕ) → n < k → slice_get xs n ≡ slice_get ys n) → k < length xs → k < length ys
      → x ≡ slice_index_or xs k x → y ≡ slice_index_or ys k y → x ≡ y → (m : ℕ) → m < k + 1 → slice_get xs m ≡ slice_get ys m
  one_more xs ys k x y before lt lu ex ey e m less =
      let here : slice_get xs k ≡ slice_get ys k = at_place xs k x lt ∙ ap Some (sym ex ∙ e ∙ ey) ∙ sym (at_place ys k y lu) in
      at_or xs ys k m before here (last m k less)

  pub one_more_at : (xs ys : List X) (k : ℕ) (d : X) → ((n : ℕ) → n < k → slice_get xs n ≡ slice_get ys n) → k < length xs → k < length ys
      → slice_index_or xs k d ≡ slice_index_or ys k d → (m : ℕ) → m < k + 1 → slice_get xs m ≡ slice_get ys m
  one_more_at xs ys k d before lt lu e m less =
      let here : slice_get xs k ≡ slice_get ys k = at_place xs k d lt ∙ ap Some e ∙ sym (at_place ys k d lu) in
      at_or xs ys k m before here (last m k less)
