-- The place that comes last in a list with a number, as the list is read.
use Rattle.std.proofs.Common.{ℕ, zero, suc, ◌≡◌, ◌+◌, ◌<◌, ◌≤◌, ◌==◌, List, [], ◌∷◌, ◌++◌, length, drop, replicate, slice_index_or, if◌then◌else◌, refl, sym, ap, ◌∙◌, arith}
use Rattle.lay_floats.specs.declared.requests.NodePlace.{NodePlace}
use Rattle.lay_floats.specs.declared.requests.Place.{Place}
use Rattle.lay_flow.specs.Blocks.FlowPlaces.{place_or}
use Rattle.lay_flow.specs.Blocks.FlowPlaces.{corner_at, joined}
use Rattle.lay_flow.specs.Blocks.BlockFloats.{no_place}

drop_is : {A : Type 0} (xs : List A) (i : ℕ) (d : A) → i < length xs → drop i xs ≡ slice_index_or xs i d ∷ drop (i + 1) xs
drop_is [] i d lt = absurd (omega (arith, lt))
drop_is (x ∷ xs) zero d lt = refl
drop_is (x ∷ xs) (suc i) d lt =
    let one : suc i + 1 ≡ suc (i + 1) = omega arith in
    drop_is xs i d (omega (arith, lt)) ∙ ap (λ (n : ℕ). slice_index_or xs i d ∷ drop n (x ∷ xs)) (sym one)

drop_end : {A : Type 0} (xs : List A) (i : ℕ) → length xs ≤ i → drop i xs ≡ []
drop_end [] zero le = refl
drop_end [] (suc i) le = refl
drop_end (x ∷ xs) zero le = absurd (omega (arith, le))
drop_end (x ∷ xs) (suc i) le = drop_end xs i (omega (arith, le))

pub drop_one : (k : ℕ) (p : Place) (qs : List NodePlace) (i : ℕ) → (d : NodePlace) → i < length qs → place_or p k (drop i qs) ≡ place_or (if (slice_index_or qs i d).node == k then (slice_index_or qs i d).place else p) k (drop (i + 1) qs)
drop_one k p qs i d lt = ap (place_or p k) (drop_is qs i d lt)

pub drop_all : (k : ℕ) (p : Place) (qs : List NodePlace) (i : ℕ) → length qs ≤ i → place_or p k (drop i qs) ≡ p
drop_all k p qs i le = ap (place_or p k) (drop_end qs i le)

-- one list after the other
pub place_after : (k : ℕ) (p : Place) (ps qs : List NodePlace) → place_or p k (ps ++ qs) ≡ place_or (place_or p k ps) k qs
place_after k p [] qs = refl
place_after k p (r ∷ ps) qs = place_after k (if r.node == k then r.place else p) ps qs

pub drop_list : (k : ℕ) (p : Place) (met : List (List NodePlace)) (i : ℕ) (d : List NodePlace) → i < length met → place_or p k (joined (drop i met)) ≡ place_or (place_or p k (slice_index_or met i d)) k (joined (drop (i + 1) met))
drop_list k p met i d lt = ap (λ (pss : List (List NodePlace)). place_or p k (joined pss)) (drop_is met i d lt) ∙ place_after k p (slice_index_or met i d) (joined (drop (i + 1) met))

pub drop_lists : (k : ℕ) (p : Place) (met : List (List NodePlace)) (i : ℕ) → length met ≤ i → place_or p k (joined (drop i met)) ≡ p
drop_lists k p met i le = ap (λ (pss : List (List NodePlace)). place_or p k (joined pss)) (drop_end met i le)

pub none_at : (n k : ℕ) → corner_at (replicate n no_place) k ≡ no_place
none_at zero k = refl
none_at (suc n) zero = refl
none_at (suc n) (suc k) = none_at n k
