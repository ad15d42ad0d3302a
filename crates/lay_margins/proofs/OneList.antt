-- The runs of a list stand in one order.
use Rattle.std.proofs.Common.{◌≡◌, ◌⊎◌, inl, inr, ℕ, zero, suc, ◌<◌, List, [], ◌∷◌, refl, sym, ap, ◌∙◌, arith, slice_get, Some}
use Rattle.std.proofs.lemmas.Option.{same_Some}
use Rattle.lay_margins.specs.declared.edge.Run.{Run}
use Rattle.lay_margins.specs.Laws.{OneListOfRuns}

abbrev IsIn : List Run → Run → Type 0
IsIn xs r = (k : ℕ) × (slice_get xs k ≡ Some r)

abbrev IsRising : List Run → Type 0
IsRising xs = (j k : ℕ) (r s : Run) → j < k → slice_get xs j ≡ Some r → slice_get xs k ≡ Some s → r.first < s.first

-- the head of a rising list is its least member
head_least : (x r : Run) (xs : List Run) → IsRising (x ∷ xs) → IsIn (x ∷ xs) r → (r ≡ x) ⊎ (x.first < r.first)
head_least x r xs up at = from at.0 at.1
  where
    from : (k : ℕ) → slice_get (x ∷ xs) k ≡ Some r → (r ≡ x) ⊎ (x.first < r.first)
    from zero e = inl (sym (same_Some x r e))
    from (suc k) e = inr (up zero (suc k) x r (omega arith) refl e)

same_head : (x y : Run) (xs ys : List Run) → IsRising (x ∷ xs) → IsRising (y ∷ ys) → IsIn (y ∷ ys) x → IsIn (x ∷ xs) y → x ≡ y
same_head x y xs ys up also x-in y-in = from (head_least y x ys also x-in) (head_least x y xs up y-in)
  where
    from : ((x ≡ y) ⊎ (y.first < x.first)) → ((y ≡ x) ⊎ (x.first < y.first)) → x ≡ y
    from (inl e) q = e
    from (inr p) (inl e) = sym e
    from (inr p) (inr q) = absurd (omega (arith, p, q))

-- a later member of one list is a later member of the other
in_tail : (x y r : Run) (xs ys : List Run) → x ≡ y → IsRising (x ∷ xs) → IsIn xs r → IsIn (y ∷ ys) r → IsIn ys r
in_tail x y r xs ys same up at other = from other.0 other.1
  where
    from : (k : ℕ) → slice_get (y ∷ ys) k ≡ Some r → IsIn ys r
    from zero e =
        let lt = up zero (suc at.0) x r (omega arith) refl at.1 in
        let f = ap (λ (q : Run). q.first) (same ∙ same_Some y r e) in
        absurd (omega (arith, lt, f))
    from (suc k) e = (k, e)

tail_rises : (x : Run) (xs : List Run) → IsRising (x ∷ xs) → IsRising xs
tail_rises x xs up j k r s lt at-j at-k = up (suc j) (suc k) r s (omega arith) at-j at-k

same_list : (xs ys : List Run) → IsRising xs → IsRising ys → ((r : Run) → IsIn xs r → IsIn ys r) → ((r : Run) → IsIn ys r → IsIn xs r) → xs ≡ ys
same_list [] [] up also there back = refl
same_list [] (y ∷ ys) up also there back = let e = (back y (zero, refl)).1 in absurd (cc)
same_list (x ∷ xs) [] up also there back = let e = (there x (zero, refl)).1 in absurd (cc)
same_list (x ∷ xs) (y ∷ ys) up also there back =
    let head = same_head x y xs ys up also (there x (zero, refl)) (back y (zero, refl)) in
    let tail = same_list xs ys (tail_rises x xs up) (tail_rises y ys also)
    (λ r at. in_tail x y r xs ys head up at (there r (suc at.0, at.1)))
    (λ r at. in_tail y x r ys xs (sym head) also at (back r (suc at.0, at.1))) in
    ap (λ (r : Run). r ∷ xs) head ∙ ap (λ (rs : List Run). y ∷ rs) tail

pub one_list_of_runs_lem : OneListOfRuns
one_list_of_runs_lem edges xs ys p q = same_list xs ys p.order q.order (λ r at. q.all r (p.each at.0 r at.1)) (λ r at. p.all r (q.each at.0 r at.1))
