-- The cells that a cell depends on. Preferred widths come of those of the inner contexts in flow or floating (CSS 2.2, 10.3.5). Sizes
-- come of the preferred widths of the context, and in flow of the sizes of the one around it, which has its containing block (10.1). A
-- placement comes of the sizes of the context, and of the placements of inner contexts in flow or floating (10.6.7). Sizes and placement
-- of an absolutely positioned one come of those of each context on the way out to its containing block besides; and as it is out of
-- flow, nothing around it depends on it (9.6).
--
-- For example, a root has a float and an absolutely positioned box whose containing block is the viewport. The root's preferred widths
-- and placement depend on those of the float, the float's sizes on the root's, and the absolutely positioned one's sizes on the sizes
-- and the placement of the root.
use Rattle.std.specs.Prelude.{ℕ, zero, suc, Bool, ◌&&◌, not, nat_lt, List, [], ◌∷◌, ◌++◌, map, if◌then◌else◌}
use Rattle.std.specs.List.{filter, flat_map}
use Rattle.lay_context.specs.declared.task.Phase.{Phase}
use Rattle.lay_context.specs.declared.task.Phase.TheVariants.{Measure, Size, Place}
use Rattle.lay_contexts.specs.Contexts.{Context, context_at}
use Rattle.lay_shape.specs.declared.cell_key.CellKey.{CellKey}
use Rattle.lay_shape.specs.declared.context_phase.ContextPhase.{ContextPhase}
use Rattle.lay_shape.specs.Keys.{key_of}
use Rattle.lay_shape.specs.Ways.{is_absolute, way_of}

-- this phase of the context with the number i
abbrev pub in_phase : Phase → ℕ → ContextPhase
in_phase phase i = record { context = i; phase = phase }

-- the number is that of an inner context which is in flow or floats, and not the 0 of a box that is no context's
abbrev pub is_inner_flow : List Context → ℕ → Bool
is_inner_flow contexts j = nat_lt 0 j && not (is_absolute contexts j)

-- the contexts inside the one with the number i that are in flow or float, in the order of its boxes
abbrev pub inner_flows : List Context → ℕ → List ℕ
inner_flows contexts i = filter (is_inner_flow contexts) (context_at contexts i).inner

-- sizes and placement of a context on a way
abbrev pub on_way : ℕ → List ContextPhase
on_way j = in_phase Size j ∷ in_phase Place j ∷ []

-- of all on the way of the context with the number i
abbrev pub way_needs : List Context → ℕ → List ContextPhase
way_needs contexts i = flat_map on_way (way_of contexts i)

-- the sizes that those of the context with the number i come of, beside what it has inside
abbrev pub outer_needs : List Context → ℕ → List ContextPhase
outer_needs contexts zero = []
outer_needs contexts (suc i) =
    if is_absolute contexts (suc i) then way_needs contexts (suc i) else in_phase Size (context_at contexts (suc i)).outer ∷ []

-- what a cell depends on, in order
abbrev pub needs_in : List Context → ContextPhase → List ContextPhase
needs_in contexts c = by c.phase
  where
    by : Phase → List ContextPhase
    by Measure = map (in_phase Measure) (inner_flows contexts c.context)
    by Size = in_phase Measure c.context ∷ outer_needs contexts c.context
    by Place = in_phase Size c.context ∷ (map (in_phase Place) (inner_flows contexts c.context) ++ way_needs contexts c.context)

-- and the keys of these
abbrev pub needs_of : List Context → ContextPhase → List CellKey
needs_of contexts c = map (key_of contexts) (needs_in contexts c)
