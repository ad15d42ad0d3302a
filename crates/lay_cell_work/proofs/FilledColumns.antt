-- Columns that are filled in with what other roots have.
use Rattle.std.proofs.Common.{◌≡◌, ◌<◌, ◌≤◌, ◌+◌, ℕ, zero, suc, List, [], ◌∷◌, ◌++◌, length, take, slice_get, slice_index_or, Option, None, Some, refl, ap, ◌∙◌, arith}
use Rattle.std.proofs.lemmas.List.{take_all, take_more}
use Rattle.lay_cell_work.specs.CellColumns.{filled, filled_at, masked}

module _ {X : Type 0} (nothing : X) (own : List X) where
  pub filled_count : (links : List (Option ℕ)) (given : List X) → length (filled nothing own links given) ≡ length given
  filled_count [] given = refl
  filled_count (None ∷ links) [] = refl
  filled_count (Some r ∷ links) [] = refl
  filled_count (None ∷ links) (x ∷ given) = ap suc (filled_count links given)
  filled_count (Some r ∷ links) (x ∷ given) = ap suc (filled_count links given)

  pub filled_reads : (links : List (Option ℕ)) (given : List X) (k : ℕ) → k < length given
      → slice_index_or (filled nothing own links given) k nothing ≡ filled_at nothing own (slice_get links k) (slice_index_or given k nothing)
  filled_reads [] given zero lt = refl
  filled_reads [] given (suc k) lt = refl
  filled_reads (l ∷ links) [] k lt = absurd (omega (arith, lt))
  filled_reads (None ∷ links) (x ∷ given) zero lt = refl
  filled_reads (Some r ∷ links) (x ∷ given) zero lt = refl
  filled_reads (None ∷ links) (x ∷ given) (suc k) lt = filled_reads links given k (omega (arith, lt))
  filled_reads (Some r ∷ links) (x ∷ given) (suc k) lt = filled_reads links given k (omega (arith, lt))

  -- what is filled in so far, with one more
  pub one_more_filled : (links : List (Option ℕ)) (given xs : List X) (k : ℕ) (x : X) → k < length given → xs ≡ take k (filled nothing own links given)
      → x ≡ filled_at nothing own (slice_get links k) (slice_index_or given k nothing) → xs ++ x ∷ [] ≡ take (k + 1) (filled nothing own links given)
  one_more_filled links given xs k x lt are is =
      let count = filled_count links given in
      let more : take (k + 1) (filled nothing own links given) ≡ take k (filled nothing own links given) ++ slice_index_or (filled nothing own links given) k nothing ∷ [] =
      take_more (filled nothing own links given) k nothing (omega (arith, lt, count)) in
      rw (more, filled_reads links given k lt, are, is) refl

  -- all of it
  pub all_filled : (links : List (Option ℕ)) (given xs : List X) (k : ℕ) → length given ≤ k → xs ≡ take k (filled nothing own links given) → xs ≡ filled nothing own links given
  all_filled links given xs k le are = are ∙ take_all k (filled nothing own links given) (let count = filled_count links given in omega (arith, le, count))

none_at : {X : Type 0} (nothing : X) (r : ℕ) → slice_index_or [] r nothing ≡ nothing
none_at nothing zero = refl
none_at nothing (suc r) = refl

-- with nothing of other roots a column is masked
pub masked_is : {X : Type 0} (nothing : X) (links : List (Option ℕ)) (given : List X) → filled nothing [] links given ≡ masked nothing links given
masked_is nothing [] given = refl
masked_is nothing (None ∷ links) [] = refl
masked_is nothing (Some r ∷ links) [] = refl
masked_is {X} nothing (None ∷ links) (x ∷ given) = ap (λ (xs : List X). x ∷ xs) (masked_is nothing links given)
masked_is {X} nothing (Some r ∷ links) (x ∷ given) =
    ap (λ (y : X). y ∷ filled nothing [] links given) (none_at nothing r) ∙ ap (λ (xs : List X). nothing ∷ xs) (masked_is nothing links given)
