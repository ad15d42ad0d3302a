-- The placement of a formatting context has a standing for each of its boxes.
use Rattle.std.proofs.Common.{◌≡◌, ◌<◌, ℕ, zero, suc, List, [], ◌∷◌, length, length-append, refl, sym, ap, ◌∙◌, arith, inl, inr}
use Rattle.std.proofs.lemmas.Bool.{cases_lt}
use Rattle.std.proofs.lemmas.List.{ext_get_or}
use Rattle.lay_flow_boxes.specs.PlaceInputs.{PlaceInput}
use Rattle.lay_placements.specs.declared.standing.Standing.{Standing}
use Rattle.lay_placements.specs.Placements.{Placement}
use Rattle.lay_placements.specs.Standings.{no_standing, standing_at}
use Rattle.lay_placement.proofs.Cited.{read_before, read_last}
use Rattle.lay_placement.specs.BoxStandings.{standing_of_box, standings_to}
use Rattle.lay_placement.specs.ContextPlacements.{IsPlacement}
use Rattle.lay_placement.specs.ContextPlaces.{ContextPlaces}

pub length_standings : (i : PlaceInput) (p : ContextPlaces) (n : ℕ) → length (standings_to i p n) ≡ n
length_standings i p zero = refl
length_standings i p (suc n) = omega (arith, length_standings i p n, length-append (standings_to i p n) (standing_of_box i p n ∷ []))

pub standing_count : (i : PlaceInput) (answer : Placement) → IsPlacement i answer → length answer.standings ≡ length i.boxes
standing_count i answer is = ap (λ (p : Placement). length p.standings) is.answer_is ∙ length_standings i is.places (length i.boxes)

pub standing_in : (i : PlaceInput) (p : ContextPlaces) (n k : ℕ) → k < n → standing_at (standings_to i p n) k ≡ standing_of_box i p k
standing_in i p zero k lt = absurd (omega arith)
standing_in i p (suc n) k lt = elim (cases_lt k n) [
  | inl low ↦ read_before (standings_to i p n) (standing_of_box i p n) k (omega (arith, low, length_standings i p n)) ∙ standing_in i p n k low
  | inr high ↦ (let q : k ≡ n = omega arith in
      read_last (standings_to i p n) (standing_of_box i p n) k (q ∙ sym (length_standings i p n)) ∙ ap (standing_of_box i p) (sym q))
]

-- a column of the standings of all boxes is the one that is defined
pub all_standings : (i : PlaceInput) (p : ContextPlaces) (ss : List Standing) (n : ℕ) → length ss ≡ n → ((k : ℕ) → k < n → standing_at ss k ≡ standing_of_box i p k) → ss ≡ standings_to i p n
all_standings i p ss n counted each =
    ext_get_or no_standing ss (standings_to i p n) (counted ∙ sym (length_standings i p n)) (λ k lt. (let within : k < n = omega (arith, lt, counted) in each k within ∙ sym (standing_in i p n k within)))
