-- The place of an id among ids that differ.
use Rattle.std.proofs.Common.{◌≡◌, inl, inr, ℕ, zero, suc, ◌<◌, List, [], ◌∷◌, length, ap, sym, ◌∙◌, arith, Some, option_map, slice_index}
use Rattle.std.proofs.lemmas.Bool.{cases_eq}
use Rattle.lay_style.specs.Places.{place_of}
use Rattle.lay_contexts.proofs.Cited.{map_some, place_here, place_later}

pub place-reads : (id : ℕ) (ids : List ℕ) (k : ℕ) → place_of id ids ≡ Some k → slice_index ids k ≡ id
place-reads id [] k e = absurd cc
place-reads id (x ∷ xs) k e = elim (cases_eq x id) [
  | inl same ↦ (let h = sym (place_here id x xs same) ∙ e in let z : 0 ≡ k = cc in ap (λ (n : ℕ). slice_index (x ∷ xs) n) (sym z) ∙ same)
  | inr other ↦ (let n = map_some (place_of id xs) k (sym (place_later id x xs other) ∙ e) in
      ap (λ (m : ℕ). slice_index (x ∷ xs) m) n.next ∙ place-reads id xs n.before n.is)
]

pub place-is : (id : ℕ) (ids : List ℕ) → ((i j : ℕ) → i < j → j < length ids → slice_index ids i ≡ slice_index ids j → ⊥)
    → (k : ℕ) → k < length ids → slice_index ids k ≡ id → place_of id ids ≡ Some k
place-is id [] apart k lt e = absurd (omega (arith, lt))
place-is id (x ∷ xs) apart zero lt e = place_here id x xs e
place-is id (x ∷ xs) apart (suc k) lt e =
    place_later id x xs (λ same. apart 0 (suc k) (omega arith) lt (same ∙ sym e))
    ∙ ap (option_map suc) (place-is id xs (λ i j less in_xs. apart (suc i) (suc j) (omega (arith, less)) (omega (arith, in_xs))) k (omega (arith, lt)) e)
