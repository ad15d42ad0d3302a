-- The values that cells keep, laid end to end: of each context a value for each of its roots, so that the value of a formatting context
-- stands at its number.
use Rattle.std.specs.Prelude.{ℕ, zero, suc, ◌==◌, ◌&&◌, Bool, true, false, List, [], ◌∷◌, ◌++◌, length, Option, None, Some, if◌then◌else◌}
use Rattle.lay_cells.specs.Rows.{Row, Solved}
use Rattle.lay_contexts.specs.Contexts.{Context}
use Rattle.lay_context_sizes.specs.ContextSizes.{not_sized}
use Rattle.lay_context_sizes.specs.MeasuredContexts.{not_measured}
use Rattle.lay_context.specs.declared.task.Phase.{Phase}
use Rattle.lay_context.specs.declared.task.Phase.TheVariants as phase
use Rattle.lay_context.specs.PlacedContexts.{not_placed}
use Rattle.lay_context.specs.Workings.{Workings}
use Rattle.lay_cell_work.specs.CellInputs.{CellInput}
use Rattle.lay_shape.specs.declared.cell_key.CellKey.{CellKey}
use Rattle.lay_cell_work.specs.CellValues.{CellValue, no_value, own_measured, own_places, own_sizes}
use Rattle.lay_cell_work.specs.PresentInputs.{key_of, root_count}

-- so many values of what is kept, which is of as many unless the context has changed
abbrev pub padded : {X : Type 0} → X → ℕ → List X → List X
padded nothing zero kept = []
padded nothing (suc n) [] = nothing ∷ padded nothing n []
padded nothing (suc n) (x ∷ xs) = x ∷ padded nothing n xs

-- those of the first n contexts, where `kept` says what is kept of a context
abbrev pub end_to_end : {X : Type 0} → X → List Context → (ℕ → List X) → (n : ℕ) → List X
end_to_end nothing contexts kept zero = []
end_to_end nothing contexts kept (suc n) = end_to_end nothing contexts kept n ++ padded nothing (root_count contexts n) (kept n)

-- the values of all formatting contexts, where `kept` says what the cell of a context keeps for a phase
abbrev pub workings_of : List Context → (ℕ → Phase → CellValue) → Workings
workings_of contexts kept = record {
  widths = end_to_end not_measured contexts (λ c. own_measured (kept c phase.Measure)) (length contexts);
  sizes = end_to_end not_sized contexts (λ c. own_sizes (kept c phase.Size)) (length contexts);
  places = end_to_end not_placed contexts (λ c. own_places (kept c phase.Place)) (length contexts);
}

abbrev pub is_phase : Phase → Phase → Bool
is_phase phase.Measure phase.Measure = true
is_phase phase.Size phase.Size = true
is_phase phase.Place phase.Place = true
is_phase _ _ = false

abbrev pub is_key : CellKey → CellKey → Bool
is_key a b = a.node.0 == b.node.0 && is_phase a.phase b.phase

abbrev pub value_or_none : Phase → Option (Solved CellKey CellInput CellValue) → CellValue
value_or_none p None = no_value p
value_or_none p (Some d) = d.value

-- the value that is kept under this key
abbrev pub value_under : List (Row CellKey CellInput CellValue) → CellKey → CellValue
value_under [] key = no_value key.phase
value_under (r ∷ rows) key = if is_key r.key key then value_or_none key.phase r.kept else value_under rows key

-- what the cell of the context c keeps for this phase
abbrev pub kept_value : List (Row CellKey CellInput CellValue) → List Context → (c : ℕ) → Phase → CellValue
kept_value rows contexts c p = value_under rows (key_of contexts c p)

-- the values of all formatting contexts, as the cells keep them
abbrev pub kept_workings : List (Row CellKey CellInput CellValue) → List Context → Workings
kept_workings rows contexts = workings_of contexts (kept_value rows contexts)
