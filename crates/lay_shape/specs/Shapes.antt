-- The shape of the cells of a document: three for each context, each behind all that it depends on. First the preferred widths, from
-- the last context to the first; then level by level the sizes from the first context of the level to the last, and the placements from
-- the last to the first. No level is higher than there are contexts.
use Rattle.std.specs.Prelude.{ℕ, ◌+◌, ◌==◌, List, ◌++◌, length, map, reverse}
use Rattle.std.specs.List.{filter, flat_map, range_with_len}
use Rattle.lay_context.specs.declared.task.Phase.TheVariants.{Measure, Size, Place}
use Rattle.lay_cells.specs.Shapes.{Entry}
use Rattle.lay_contexts.specs.Contexts.{Context}
use Rattle.lay_shape.specs.declared.cell_key.CellKey.{CellKey}
use Rattle.lay_shape.specs.declared.context_phase.ContextPhase.{ContextPhase}
use Rattle.lay_shape.specs.Dependencies.{in_phase, needs_of}
use Rattle.lay_shape.specs.Keys.{key_of}
use Rattle.lay_shape.specs.Levels.{level_of}

-- the numbers of all contexts, and of those of a level
abbrev pub numbers_of : List Context → List ℕ
numbers_of contexts = range_with_len 0 (length contexts)

abbrev pub at_level : List Context → ℕ → List ℕ
at_level contexts level = filter (λ i. level_of contexts i == level) (numbers_of contexts)

-- the sizes of a level, and then its placements
abbrev pub round_of : List Context → ℕ → List ContextPhase
round_of contexts level = map (in_phase Size) (at_level contexts level) ++ map (in_phase Place) (reverse (at_level contexts level))

-- all cells in order
abbrev pub cells_of : List Context → List ContextPhase
cells_of contexts =
    map (in_phase Measure) (reverse (numbers_of contexts)) ++ flat_map (round_of contexts) (range_with_len 0 (length contexts + 1))

-- a cell with what it depends on
abbrev pub entry_of : List Context → ContextPhase → Entry CellKey
entry_of contexts c = record { key = key_of contexts c; needs = needs_of contexts c }

abbrev pub shape_of : List Context → List (Entry CellKey)
shape_of contexts = map (entry_of contexts) (cells_of contexts)
