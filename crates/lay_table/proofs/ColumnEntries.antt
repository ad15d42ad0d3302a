-- Columns that grow by one entry, and columns that agree.
use Rattle.std.proofs.Common.{◌≡◌, ℕ, suc, ◌+◌, ◌<◌, List, [], ◌∷◌, ◌++◌, length, get_or, sym, ◌∙◌, subst, arith, inl, inr}
use Rattle.std.proofs.Math.ListN.{get_or-append}
use Rattle.std.proofs.Math.Seq.{get_or-append_seam}
use Rattle.std.proofs.lemmas.Bool.{cases_lt}

-- what holds of each entry, and of one more
pub one_more : {X : Type 0} (P : ℕ → X → Type 0) (d : X) (xs : List X) (x : X) (n : ℕ) → length xs ≡ n → ((k : ℕ) → k < n → P k (get_or xs k d)) → P n x
    → (k : ℕ) → k < n + 1 → P k (get_or (xs ++ x ∷ []) k d)
one_more P d xs x n counted each last k less = elim (cases_lt k n) [
  | inl low ↦ subst (P k) (sym (get_or-append xs (x ∷ []) d k (omega (arith, low, counted)))) (each k low)
  | inr high ↦ (
      let q : k ≡ n = omega (arith, less, high) in
      let read : get_or (xs ++ x ∷ []) k d ≡ x = subst (λ (j : ℕ). get_or (xs ++ x ∷ []) j d ≡ x) (counted ∙ sym q) (get_or-append_seam xs x [] d) in
      subst (P k) (sym read) (subst (λ (j : ℕ). P j x) (sym q) last))
]
