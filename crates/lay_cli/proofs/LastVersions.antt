-- The last version of a whole history is published.
use Rattle.std.proofs.Common.{◌≡◌, ◌==◌, ◌⊎◌, ◌||◌, ℕ, Bool, true, false, List, [], ◌∷◌, inl, inr, ap, ◌∙◌, arith, Option, Some, None}
use Rattle.std.specs.List.{list_any}
use Rattle.lay_history.specs.declared.edits.history.Entry.{Entry}
use Rattle.lay_history.specs.Histories.{accepted, is_published, last_or, published}
use Rattle.lay_history.specs.Legal.{IsWhole}

last_there : (before : Option ℕ) (vs : List ℕ) (v : ℕ) → last_or before vs ≡ Some v → (before ≡ Some v) ⊎ (list_any (λ w. w == v) vs ≡ true)
last_there before [] v is = inl is
last_there before (w ∷ ws) v is = elim (last_there (Some w) ws v is) [
  | inl e ↦ inr (let same : w ≡ v = cc in let yes : (w == v) ≡ true = grind (arith, same) in ap (λ (b : Bool). b || list_any (λ u. u == v) ws) yes)
  | inr e ↦ inr (grind (arith, e))
]

pub whole_published : (history : List Entry) → IsWhole history → false ≡ is_published history (accepted history) → ⊥
whole_published history whole none = elim (last_there None (published history) (accepted history) whole) [ inl e ↦ (let f : None ≡ Some (accepted history) = e in absurd cc) | inr e ↦ (let f : false ≡ true = none ∙ e in absurd cc) ]
