-- Where cells stand, with one more.
use Rattle.std.proofs.Common.{◌≡◌, ◌≢◌, ℕ, suc, ◌+◌, ◌<◌, List, length, slice_get, slice_set, Some, refl, ap, sym, subst, ◌∙◌, arith, inl, inr}
use Rattle.std.proofs.lemmas.Bool.{cases_lt}
use Rattle.std.proofs.lemmas.Grind.{elements}
use Rattle.std.proofs.lemmas.Option.{same_Some, slice_get_within}
use Rattle.lay_context.specs.declared.task.Phase.{Phase}
use Rattle.lay_context.specs.declared.task.Phase.TheVariants as phase
use Rattle.lay_contexts.specs.Contexts.{AreContexts, Context}
use Rattle.lay_shape.specs.declared.context_phase.ContextPhase.{ContextPhase}
use Rattle.lay_shape.specs.Dependencies.{in_phase}
use Rattle.lay_shape.specs.Laws.{CellsStandOnce}
use Rattle.lay_shape.specs.Shapes.{cells_of}
use Rattle.lay_kept_cells.specs.declared.table.cell_places.CellPlaces.{CellPlaces}
use Rattle.lay_kept_cells.specs.Table.CellPlaces.{AreCellPlaces, ArePlacesTo, StandsThere, place_in, places_at, with_place}

noted_here : (places : List CellPlaces) (i : ℕ) (p : CellPlaces) → i < length places → places_at (slice_set places i p) i ≡ p
noted_here places i p lt = grind (arith, elements)

noted_else : (places : List CellPlaces) (i j : ℕ) (p : CellPlaces) → j ≢ i → places_at (slice_set places i p) j ≡ places_at places j
noted_else places i j p other = grind (arith, elements)

pub noted_count : (places : List CellPlaces) (i : ℕ) (p : CellPlaces) → length (slice_set places i p) ≡ length places
noted_count places i p = grind (arith, elements)

-- what holds of the place for a phase, where that for another one is noted
by_phase : (P : ℕ → Type 0) (p : CellPlaces) (noted asked : Phase) (k : ℕ) → P (place_in p asked) → (noted ≡ asked → P k) → P (place_in (with_place p noted k) asked)
by_phase P p phase.Measure phase.Measure k old new = new refl
by_phase P p phase.Measure phase.Size k old new = old
by_phase P p phase.Measure phase.Place k old new = old
by_phase P p phase.Size phase.Measure k old new = old
by_phase P p phase.Size phase.Size k old new = new refl
by_phase P p phase.Size phase.Place k old new = old
by_phase P p phase.Place phase.Measure k old new = old
by_phase P p phase.Place phase.Size k old new = old
by_phase P p phase.Place phase.Place k old new = new refl

module _ (cells : List ContextPhase) (places : List CellPlaces) (cell : ContextPhase) (k : ℕ) (at : slice_get cells k ≡ Some cell) (within : cell.context < length places) where
  abbrev Noted : List CellPlaces
  Noted = slice_set places cell.context (with_place (places_at places cell.context) cell.phase k)

  abbrev IsAt : ContextPhase → ℕ → Type 0
  IsAt c place = slice_get cells place ≡ Some c

  same_cell : (c : ContextPhase) → c.context ≡ cell.context → cell.phase ≡ c.phase → cell ≡ c
  same_cell c context phase = ap (λ (n : ℕ). record { context = n; phase = cell.phase }) (sym context) ∙ ap (λ (p : Phase). record { context = c.context; phase = p }) phase

  stands_same : (c : ContextPhase) → c.context ≡ cell.context → (c.context ≡ cell.context → StandsThere cells places c) → StandsThere cells Noted c
  stands_same c here old =
      let noted : places_at Noted c.context ≡ with_place (places_at places c.context) cell.phase k =
      ap (places_at Noted) here ∙ noted_here places cell.context (with_place (places_at places cell.context) cell.phase k) within
      ∙ ap (λ (i : ℕ). with_place (places_at places i) cell.phase k) (sym here) in
      subst (λ (p : CellPlaces). IsAt c (place_in p c.phase)) (sym noted)
      (by_phase (IsAt c) (places_at places c.context) cell.phase c.phase k (old here) (λ e. at ∙ ap Some (same_cell c here e)))

  stands_else : (c : ContextPhase) → c.context ≢ cell.context → StandsThere cells places c → StandsThere cells Noted c
  stands_else c other old =
      subst (λ (p : CellPlaces). IsAt c (place_in p c.phase)) (sym (noted_else places cell.context c.context (with_place (places_at places cell.context) cell.phase k) other)) old

  stands_still : (c : ContextPhase) → StandsThere cells places c → StandsThere cells Noted c
  stands_still c old = elim (cases_lt c.context cell.context) [
    | inl low ↦ stands_else c (λ e. omega (arith, low, e)) old
    | inr high ↦ elim (cases_lt cell.context c.context) [
      | inl over ↦ stands_else c (λ e. omega (arith, over, e)) old
      | inr under ↦ stands_same c (omega (arith, high, under)) (λ e. old)
    ]
  ]

  -- the place that was noted is that of the cell
  stands_now : StandsThere cells Noted cell
  stands_now =
      subst (λ (p : CellPlaces). IsAt cell (place_in p cell.phase)) (sym (noted_here places cell.context (with_place (places_at places cell.context) cell.phase k) within))
      (now cell.phase)
    where
      now : (p : Phase) → IsAt cell (place_in (with_place (places_at places cell.context) p k) p)
      now phase.Measure = at
      now phase.Size = at
      now phase.Place = at

  pub place_noted : ArePlacesTo cells places k → ArePlacesTo cells Noted (k + 1)
  place_noted before j c lt there = elim (cases_lt j k) [
    | inl low ↦ stands_still c (before j c low there)
    | inr high ↦ (let here : j ≡ k = omega (arith, lt, high) in
        let same : cell ≡ c = same_Some cell c (sym at ∙ ap (slice_get cells) (sym here) ∙ there) in
        subst (StandsThere cells Noted) same stands_now)
  ]

pub all_noted : (contexts : List Context) (places : List CellPlaces) (n : ℕ) → CellsStandOnce → AreContexts contexts → n ≡ length (cells_of contexts) → length places ≡ length contexts
    → ArePlacesTo (cells_of contexts) places n → AreCellPlaces contexts places
all_noted contexts places n once are all count noted = record {
  count = count;
  each = λ c p lt. (let s = once contexts c p are lt in
      let low = slice_get_within (cells_of contexts) s.place (in_phase p c) s.at in
      noted s.place (in_phase p c) (omega (arith, all, low)) s.at);
}
