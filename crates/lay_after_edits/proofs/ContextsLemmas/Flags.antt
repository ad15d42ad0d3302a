-- Lists of flags.
use Rattle.std.proofs.Common.{◌≡◌, inl, inr, ℕ, zero, suc, ◌+◌, ◌<◌, Bool, true, false, List, [], ◌∷◌, ◌++◌, length, refl, ap, sym, ◌∙◌, arith}
use Rattle.std.proofs.lemmas.Bool.{cases_lt}
use Rattle.std.proofs.lemmas.Grind.{elements}
use Rattle.lay_after_edits.specs.Contexts.Links.{is_made}
use Rattle.lay_after_edits.specs.Contexts.Marks.{Marks}

pub flag-within : (flags : List Bool) (k : ℕ) → is_made flags k ≡ true → k < length flags
flag-within [] k e = absurd (let z : false ≡ true = e in cc)
flag-within (x ∷ xs) zero e = omega arith
flag-within (x ∷ xs) (suc k) e = let l = flag-within xs k e in omega (arith, l)

-- what was flagged stays so
pub mark-keeps : (at : ℕ) (before after : List Bool) → Marks at before after → (k : ℕ) → is_made before k ≡ true → is_made after k ≡ true
mark-keeps at before after m k flag = elim (cases_lt k at) [
  | inl low ↦ m.others k (λ e. omega (arith, low, e)) ∙ flag
  | inr high ↦ elim (cases_lt at k) [
    | inl over ↦ m.others k (λ e. omega (arith, over, e)) ∙ flag
    | inr under ↦ (let z : k ≡ at = omega (arith, high, under) in
        ap (is_made after) z ∙ m.here (let l = flag-within before k flag in omega (arith, l, z)))
  ]
]

pub is-false : (b : Bool) → (b ≡ true → false ≡ true) → b ≡ false
is-false true h = sym (h refl)
is-false false h = refl

pub no-flag : (b : Bool) → b ≡ true → b ≡ false → false ≡ true
no-flag b t f = sym f ∙ t

-- one more flag
pub flag-before : (bs : List Bool) (b : Bool) (k : ℕ) → k < length bs → is_made (bs ++ b ∷ []) k ≡ is_made bs k
flag-before bs b k lt = grind (arith, elements)

pub flag-last : (bs : List Bool) (b : Bool) (k : ℕ) → k ≡ length bs → is_made (bs ++ b ∷ []) k ≡ b
flag-last bs b k e = grind (arith, elements)
