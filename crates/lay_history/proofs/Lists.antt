-- Lists: one more element, and fronts.
use Rattle.std.proofs.Common.{◌≡◌, ◌<◌, ◌⊎◌, ℕ, zero, suc, List, [], ◌∷◌, ◌++◌, length, take, Some, None, refl, sym, ap, subst, arith, inl, inr, slice_get, All}
use Rattle.std.proofs.lemmas.Option.{same_Some, none-some}

-- what stands at a place of a list with one more element
pub get_more : {X : Type 0} (xs : List X) (x y : X) (k : ℕ) → slice_get (xs ++ x ∷ []) k ≡ Some y
    → ((k < length xs) × (slice_get xs k ≡ Some y)) ⊎ ((k ≡ length xs) × (x ≡ y))
get_more [] x y zero e = inr (refl, same_Some x y e)
get_more [] x y (suc k) e = absurd (none-some y e)
get_more (z ∷ zs) x y zero e = inl (omega arith, e)
get_more (z ∷ zs) x y (suc k) e = elim (get_more zs x y k e) [
  | inl old ↦ inl ((let lt = old.0 in omega (arith, lt)), old.1)
  | inr new ↦ inr (ap suc new.0, new.1)
]

pub get_some : {X : Type 0} (xs : List X) (k : ℕ) → k < length xs → slice_get xs k ≡ None → ⊥
get_some [] k lt e = absurd (omega (arith, lt))
get_some (x ∷ xs) zero lt e = none-some x (sym e)
get_some (x ∷ xs) (suc k) lt e = get_some xs k (omega (arith, lt)) e

-- a front of a list has the same at its places
pub get_take : {X : Type 0} (xs : List X) (j k : ℕ) → j < k → slice_get (take k xs) j ≡ slice_get xs j
get_take [] j zero lt = absurd (omega (arith, lt))
get_take [] j (suc k) lt = refl
get_take (x ∷ xs) j zero lt = absurd (omega (arith, lt))
get_take (x ∷ xs) zero (suc k) lt = refl
get_take (x ∷ xs) (suc j) (suc k) lt = get_take xs j k (omega (arith, lt))

pub take_whole : {X : Type 0} (xs : List X) → take (length xs) xs ≡ xs
take_whole [] = refl
take_whole (x ∷ xs) = ap (λ t. x ∷ t) (take_whole xs)

pub take_more : {X : Type 0} (xs : List X) (k : ℕ) (x : X) → slice_get xs k ≡ Some x → take (suc k) xs ≡ take k xs ++ x ∷ []
take_more [] k x e = absurd (none-some x e)
take_more (y ∷ ys) zero x e = ap (λ z. z ∷ []) (same_Some y x e)
take_more (y ∷ ys) (suc k) x e = ap (λ t. y ∷ t) (take_more ys k x e)

-- what holds of each element holds of the one at a place
pub all_at : {X : Type 0} (P : X → Type 0) (xs : List X) (k : ℕ) (x : X) → All P xs → slice_get xs k ≡ Some x → P x
all_at P [] k x all e = absurd (none-some x e)
all_at P (y ∷ ys) zero x all e = subst P (same_Some y x e) (all 0 y (omega arith))
all_at P (y ∷ ys) (suc k) x all e = all_at P ys k x (λ j d lt. all (suc j) d (omega (arith, lt))) e
