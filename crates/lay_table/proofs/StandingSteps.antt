-- Where boxes stand, one after another.
use Rattle.std.proofs.Common.{◌≡◌, ℕ, zero, suc, ◌+◌, ◌<◌, ◌==◌, Bool, true, false, List, [], ◌∷◌, length, length-append, slice_index, Some, refl, sym, ap, ◌∙◌, subst, arith, inl, inr, if◌then◌else◌}
use Rattle.std.proofs.Math.ListN.{get_or-append}
use Rattle.std.proofs.Math.Seq.{get_or-append_seam}
use Rattle.std.proofs.lemmas.Bool.{cases_lt}
use Rattle.std.proofs.lemmas.List.{ext_get_or}
use Rattle.lay_placements.specs.declared.standing.Standing.{Standing}
use Rattle.lay_placements.specs.Standings.{no_standing, standing_at}
use Rattle.lay_table.specs.TableInputs.{TableInput}
use Rattle.lay_table.specs.PlaceBounds.{AreStandings}
use Rattle.lay_table.specs.TablePlacements.{table_standings_to}
use Rattle.lay_table.specs.TableStandings.{TablePlaces, number_in, standing_by, standing_of}

-- one more of them
pub one_more : (places : List ℕ) (f : ℕ → Standing) (k n : ℕ) (old s : Standing) → s ≡ f n
    → (if slice_index places n == k then s else standing_by f old (number_in places k n)) ≡ standing_by f old (number_in places k (n + 1))
one_more places f k n old s is = let e : n + 1 ≡ suc n = omega arith in rw e (by (slice_index places n == k))
  where
    by : (b : Bool) → (if b then s else standing_by f old (number_in places k n)) ≡ standing_by f old (if b then Some n else number_in places k n)
    by true = is
    by false = refl

count_to : (i : TableInput) (p : TablePlaces) (n : ℕ) → length (table_standings_to i p n) ≡ n
count_to i p zero = refl
count_to i p (suc n) = let more = count_to i p n in rw (length-append, more) (omega arith)

each_to : (i : TableInput) (p : TablePlaces) (n k : ℕ) → k < n → standing_at (table_standings_to i p n) k ≡ standing_of i p k
each_to i p zero k less = absurd (omega (arith, less))
each_to i p (suc n) k less = elim (cases_lt k n) [
  | inl low ↦ get_or-append (table_standings_to i p n) (standing_of i p n ∷ []) no_standing k (omega (arith, low, count_to i p n)) ∙ each_to i p n k low
  | inr high ↦ (
      let q : k ≡ n = omega (arith, less, high) in
      subst (λ (j : ℕ). standing_at (table_standings_to i p (suc n)) j ≡ standing_of i p k) (count_to i p n ∙ sym q) (get_or-append_seam (table_standings_to i p n) (standing_of i p n) [] no_standing ∙ ap (standing_of i p) (sym q)))
]

pub are_all : (i : TableInput) (p : TablePlaces) (standings : List Standing) → AreStandings i p standings → standings ≡ table_standings_to i p (length i.boxes)
are_all i p standings are =
    ext_get_or no_standing standings (table_standings_to i p (length i.boxes)) (are.count ∙ sym (count_to i p (length i.boxes)))
    (λ k less. (let within : k < length i.boxes = omega (arith, less, are.count) in are.each k within ∙ sym (each_to i p (length i.boxes) k within)))
