-- The first baseline, of lines and of boxes.
use Rattle.std.proofs.Common.{◌≡◌, ℕ, zero, suc, ◌<◌, true, false, cond, List, [], ◌∷◌, ◌++◌, Option, Some, None, refl, sym, ap, ◌∙◌, arith, inl, inr}
use Rattle.std.specs.List.{find}
use Rattle.std.specs.Option.{is_some, option_map, option_or}
use Rattle.std.proofs.lemmas.Bool.{cases_lt, or_parts}
use Rattle.lay_units.specs.declared.length.Unit.{Unit as Length}
use Rattle.lay_lines.specs.declared.row.Ended.{Ended}
use Rattle.lay_inlines.specs.LinePieces.{baseline_of}
use Rattle.lay_flow.specs.Blocks.FlowPlaces.{FlowPlacesValue}
use Rattle.lay_flow_boxes.specs.PlaceInputs.{PlaceInput}
use Rattle.lay_placement.specs.Baselines.{baseline_in, first_baseline_to}
use Rattle.lay_placement.specs.Laws.{FirstBoxGivesBaseline, FirstSeenLineGivesBaseline, any_seen}

first_found : (before after : List Ended) (row : Ended) → row.seen ≡ true → any_seen before ≡ false → find (λ (r : Ended). r.seen) (before ++ row ∷ after) ≡ Some row
first_found [] after row seen none = ap (λ b. cond b (Some row) (find (λ (r : Ended). r.seen) after)) seen
first_found (x ∷ xs) after row seen none =
    ap (λ b. cond b (Some x) (find (λ (r : Ended). r.seen) (xs ++ row ∷ after))) (or_parts x.seen (any_seen xs) none).0 ∙ first_found xs after row seen (or_parts x.seen (any_seen xs) none).1

pub first_seen_line_lem : FirstSeenLineGivesBaseline
first_seen_line_lem before after row seen none =
    ap (option_map (λ (r : Ended). let u : Length = record { 0 = baseline_of r } in u)) (first_found before after row seen none)

-- no box before n has one
pub none_before : (i : PlaceInput) (places : FlowPlacesValue) (n : ℕ) → ((j : ℕ) → j < n → baseline_in i places j ≡ None) → first_baseline_to i places n ≡ None
none_before i places zero none = refl
none_before i places (suc n) none = rw (none_before i places n (λ j lt. none j (omega arith))) (none n (omega arith))

or_some : {X : Type 0} (a : Option X) (b : X) (c : Option X) → a ≡ Some b → option_or a c ≡ Some b
or_some None b c is = absurd cc
or_some (Some x) b c is = is

pub first_box_lem : FirstBoxGivesBaseline
first_box_lem i places k zero b lt is none = absurd (omega arith)
first_box_lem i places k (suc n) b lt is none = elim (cases_lt k n) [
  | inl low ↦ or_some (first_baseline_to i places n) b (baseline_in i places n) (first_box_lem i places k n b low is none)
  | inr high ↦ (let q : n ≡ k = omega arith in rw (none_before i places n (λ j jl. none j (omega arith)), q) is)
]

-- the first that is found
pub first_found_lem : (i : PlaceInput) (places : FlowPlacesValue) (k n : ℕ) (found : Option Length) → k < n → found ≡ baseline_in i places k → is_some found ≡ true → ((j : ℕ) → j < k → baseline_in i places j ≡ None)
    → found ≡ first_baseline_to i places n
first_found_lem i places k n None lt is some none = absurd cc
first_found_lem i places k n (Some b) lt is some none = sym (first_box_lem i places k n b lt (sym is) none)

-- and none that is
pub none_found : (found : Option Length) → is_some found ≡ false → found ≡ None
none_found None none = refl
none_found (Some b) none = absurd cc
