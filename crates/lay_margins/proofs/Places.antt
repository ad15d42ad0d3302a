-- Members of a list by their places.
use Rattle.std.proofs.Common.{◌≡◌, ◌⊎◌, inl, inr, ℕ, zero, suc, List, [], ◌∷◌, ◌++◌, length, refl, sym, slice_get, Some, ap}
use Rattle.std.proofs.lemmas.Option.{same_Some}

pub old_place : {X : Type 0} (xs ys : List X) (k : ℕ) (x : X) → slice_get xs k ≡ Some x → slice_get (xs ++ ys) k ≡ Some x
old_place [] ys k x e = absurd (cc)
old_place (z ∷ xs) ys zero x e = e
old_place (z ∷ xs) ys (suc k) x e = old_place xs ys k x e

pub last_place : {X : Type 0} (xs : List X) (x : X) → slice_get (xs ++ x ∷ []) (length xs) ≡ Some x
last_place [] x = refl
last_place (z ∷ xs) x = last_place xs x

-- a member of a list to which one was added is an old one, or that one
pub one_more : {X : Type 0} (xs : List X) (x y : X) (k : ℕ) → slice_get (xs ++ x ∷ []) k ≡ Some y → (slice_get xs k ≡ Some y) ⊎ ((k ≡ length xs) × (y ≡ x))
one_more [] x y zero e = inr (refl, sym (same_Some x y e))
one_more [] x y (suc k) e = absurd (cc)
one_more (z ∷ xs) x y zero e = inl e
one_more (z ∷ xs) x y (suc k) e = further (one_more xs x y k e)
  where
    further : ((slice_get xs k ≡ Some y) ⊎ ((k ≡ length xs) × (y ≡ x))) → (slice_get xs k ≡ Some y) ⊎ ((suc k ≡ suc (length xs)) × (y ≡ x))
    further (inl old) = inl old
    further (inr last) = inr (ap suc last.0, last.1)
