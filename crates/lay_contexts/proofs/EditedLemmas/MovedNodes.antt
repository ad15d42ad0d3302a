-- What stands at a place of a list of nodes after one was put in, or some were taken out.
use Rattle.std.proofs.Common.{◌≡◌, inl, inr, ℕ, suc, ◌+◌, ◌-◌, ◌<◌, ◌≤◌, List, [], ◌∷◌, length, ap, sym, ◌∙◌, arith, Some, slice_get}
use Rattle.std.specs.List.{insert, remove_range}
use Rattle.std.proofs.lemmas.Bool.{cases_lt}
use Rattle.std.proofs.lemmas.List.Edits.{length-insert}
use Rattle.std.proofs.lemmas.Option.{slice_get-get_or}
use Rattle.lay_doc.specs.Tree.{shifted}
use Rattle.lay_contexts.proofs.Cited.{cut_read, length-cut, moved_read, old_place, shifted_high, shifted_low}

-- Places before and after a new node.
pub shifted-less : (at j k : ℕ) → j < k → shifted at j < shifted at k
shifted-less at j k less = elim (cases_lt k at) [
  | inl low ↦ (let a = shifted_low at k low in let b = shifted_low at j (omega (arith, less, low)) in omega (arith, less, a, b))
  | inr high ↦ (let a = shifted_high at k high in elim (cases_lt j at) [
    | inl under ↦ (let b = shifted_low at j under in omega (arith, less, a, b))
    | inr over ↦ (let b = shifted_high at j over in omega (arith, less, a, b))
  ])
]

pub shifted-back : (at j k : ℕ) → shifted at j < shifted at k → j < k
shifted-back at j k less = elim (cases_lt j k) [
  | inl low ↦ low
  | inr high ↦ elim (cases_lt k j) [
    | inl over ↦ absurd (let a = shifted-less at k j over in omega (arith, a, less))
    | inr under ↦ absurd (let e : j ≡ k = omega (arith, high, under) in let a : shifted at j ≡ shifted at k = ap (shifted at) e in omega (arith, a, less))
  ]
]

pub shifted-more : (at k : ℕ) → k ≤ shifted at k
shifted-more at k = elim (cases_lt k at) [
  | inl low ↦ (let a = shifted_low at k low in omega (arith, a))
  | inr high ↦ (let a = shifted_high at k high in omega (arith, a))
]

pub shifted-within : (at k n : ℕ) → at ≤ n → k < n → shifted at k < n + 1
shifted-within at k n le lt = elim (cases_lt k at) [
  | inl low ↦ (let a = shifted_low at k low in omega (arith, a, lt))
  | inr high ↦ (let a = shifted_high at k high in omega (arith, a, lt))
]

pub get-shifted : {X : Type 0} (xs : List X) (at : ℕ) (x : X) (k : ℕ) → at ≤ length xs → k < length xs → slice_get (insert xs at x) (shifted at k) ≡ slice_get xs k
get-shifted xs at x k le lt =
    let inside : shifted at k < length (insert xs at x) = (let a = shifted-within at k (length xs) le lt in let l = length-insert xs at x le in omega (arith, a, l)) in
    slice_get-get_or (insert xs at x) (shifted at k) x inside ∙ (ap Some (moved_read xs at x x k le) ∙ sym (slice_get-get_or xs k x lt))

-- Places after some nodes were taken out.
pub get-old : {X : Type 0} (xs : List X) (i j k : ℕ) → i ≤ j → j ≤ length xs → k + (j - i) < length xs → old_place i j k < length xs → slice_get (remove_range xs i j) k ≡ slice_get xs (old_place i j k)
get-old [] i j k le within lt inside = absurd (omega (arith, lt))
get-old (x ∷ xs) i j k le within lt inside =
    let l = length-cut (x ∷ xs) i j le within in
    slice_get-get_or (remove_range (x ∷ xs) i j) k x (omega (arith, lt, l)) ∙ (ap Some (cut_read (x ∷ xs) i j k x le within) ∙ sym (slice_get-get_or (x ∷ xs) (old_place i j k) x inside))
