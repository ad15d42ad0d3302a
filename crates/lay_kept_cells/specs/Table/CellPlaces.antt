-- Where the cells of each context stand among all cells in the order of their shape. Each phase of each context is one cell.
use Rattle.std.specs.Prelude.{ℕ, ◌≡◌, ◌<◌, List, length, slice_get, slice_index_or, Some}
use Rattle.lay_context.specs.declared.task.Phase.{Phase}
use Rattle.lay_context.specs.declared.task.Phase.TheVariants as phase
use Rattle.lay_contexts.specs.Contexts.{Context}
use Rattle.lay_shape.specs.declared.context_phase.ContextPhase.{ContextPhase}
use Rattle.lay_shape.specs.Dependencies.{in_phase}
use Rattle.lay_shape.specs.Shapes.{cells_of}
use Rattle.lay_kept_cells.specs.declared.table.cell_places.CellPlaces.{CellPlaces}

abbrev pub no_places : CellPlaces
no_places = record { measure = 0; size = 0; place = 0 }

abbrev pub places_at : List CellPlaces → ℕ → CellPlaces
places_at places c = slice_index_or places c no_places

-- the place for a phase
abbrev pub place_in : CellPlaces → Phase → ℕ
place_in p phase.Measure = p.measure
place_in p phase.Size = p.size
place_in p phase.Place = p.place

abbrev pub with_place : CellPlaces → Phase → ℕ → CellPlaces
with_place p phase.Measure k = record { measure = k; size = p.size; place = p.place }
with_place p phase.Size k = record { measure = p.measure; size = k; place = p.place }
with_place p phase.Place k = record { measure = p.measure; size = p.size; place = k }

-- the cell of the context c for this phase stands where they say
abbrev pub StandsThere : List ContextPhase → List CellPlaces → ContextPhase → Type 0
StandsThere cells places c = slice_get cells (place_in (places_at places c.context) c.phase) ≡ Some c

-- each of the first n cells does
abbrev pub ArePlacesTo : List ContextPhase → List CellPlaces → (n : ℕ) → Type 0
ArePlacesTo cells places n = (k : ℕ) (c : ContextPhase) → k < n → slice_get cells k ≡ Some c → StandsThere cells places c

-- these are the places of the cells of all contexts
pub record AreCellPlaces (contexts : List Context) (places : List CellPlaces) : Type 0 where
  pub count : length places ≡ length contexts
  pub each : (c : ℕ) (p : Phase) → c < length contexts → StandsThere (cells_of contexts) places (in_phase p c)
