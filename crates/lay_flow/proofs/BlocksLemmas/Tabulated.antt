-- Columns of the values of a function.
use Rattle.std.proofs.Common.{◌≡◌, ℕ, zero, suc, ◌<◌, List, [], ◌∷◌, ◌++◌, length, slice_index_or, refl, arith, inl, inr}
use Rattle.std.proofs.lemmas.Bool.{cases_lt}
use Rattle.std.proofs.lemmas.Grind.{elements}

-- the values of f at the places before n
abbrev pub tab : {A : Type 0} → (ℕ → A) → ℕ → List A
tab f zero = []
tab f (suc n) = tab f n ++ f n ∷ []

pub tab_length : {A : Type 0} (f : ℕ → A) (n : ℕ) → length (tab f n) ≡ n
tab_length f zero = refl
tab_length f (suc n) = let h = tab_length f n in grind (arith, elements, h)

pub tab_at : {A : Type 0} (f : ℕ → A) (other : A) (n k : ℕ) → k < n → slice_index_or (tab f n) k other ≡ f k
tab_at f other zero k lt = absurd (omega (arith, lt))
tab_at f other (suc n) k lt = let l = tab_length f n in elim (cases_lt k n) [
  | inl low ↦ (let h = tab_at f other n k low in grind (arith, elements, h, l))
  | inr high ↦ (let e : k ≡ n = omega (arith, lt, high) in rw e (grind (arith, elements, l)))
]
