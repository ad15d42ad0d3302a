-- Filling in what was masked gives the whole again, where what is linked is the own value of its root.
use Rattle.std.proofs.Common.{◌≡◌, ◌<◌, ℕ, suc, Bool, true, false, if◌then◌else◌, List, [], ◌∷◌, length, map, slice_index, slice_index_or, Option, None, Some, refl, ap, sym, arith}
use Rattle.std.specs.List.{list_any}
use Rattle.lay_cell_work.specs.CellColumns.{filled, is_link, links_or_none, masked}

module _ {X : Type 0} (nothing : X) (own : List X) (link : ℕ → Option ℕ) (value : ℕ → X) where
  -- each box that is linked has the own value
  abbrev pub Agrees : List ℕ → Type 0
  Agrees numbers = (k r : ℕ) → k < length numbers → link (slice_index numbers k) ≡ Some r → value (slice_index numbers k) ≡ slice_index_or own r nothing

  filled_one : (j : ℕ) (l : Option ℕ) (links : List (Option ℕ)) (values : List X) → ((r : ℕ) → l ≡ Some r → value j ≡ slice_index_or own r nothing)
      → filled nothing own links (masked nothing links values) ≡ values → filled nothing own (l ∷ links) (masked nothing (l ∷ links) (value j ∷ values)) ≡ value j ∷ values
  filled_one j None links values agree rest = ap (λ (ys : List X). value j ∷ ys) rest
  filled_one j (Some r) links values agree rest = (let here : value j ≡ slice_index_or own r nothing = agree r refl in rw (sym here, rest) refl)

  pub filled_back : (numbers : List ℕ) → Agrees numbers → filled nothing own (map link numbers) (masked nothing (map link numbers) (map value numbers)) ≡ map value numbers
  filled_back [] agree = refl
  filled_back (j ∷ numbers) agree =
      filled_one j (link j) (map link numbers) (map value numbers) (λ r e. agree 0 r (omega arith) e) (filled_back numbers (λ k r lt e. agree (suc k) r (omega (arith, lt)) e))

  whole_by : (b : Bool) (links : List (Option ℕ)) (values : List X) → filled nothing own links (masked nothing links values) ≡ values
      → filled nothing own (if b then links else []) (masked nothing (if b then links else []) values) ≡ values
  whole_by true links values whole = whole
  whole_by false links values whole = refl

  pub whole : (numbers : List ℕ) → Agrees numbers
      → filled nothing own (links_or_none (map link numbers)) (masked nothing (links_or_none (map link numbers)) (map value numbers)) ≡ map value numbers
  whole numbers agree = whole_by (list_any is_link (map link numbers)) (map link numbers) (map value numbers) (filled_back numbers agree)
