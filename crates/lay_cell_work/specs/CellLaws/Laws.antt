-- Values that are laid end to end stand at the numbers of their formatting contexts; and beside what it is given a cell has one value,
-- as what its roots give each other goes one way.
use Rattle.std.specs.Prelude.{ℕ, ◌≡◌, ◌+◌, ◌<◌, List, length, slice_index_or}
use Rattle.lay_contexts.specs.Contexts.{AreContexts, Context}
use Rattle.lay_contexts.specs.FormattingContexts.{FormattingContext}
use Rattle.lay_contexts.specs.FormattingContextList.{AreFormattingContextsOf, first_number}
use Rattle.lay_context.specs.declared.task.Phase.{Phase}
use Rattle.lay_context.specs.Medium.{Medium}
use Rattle.lay_context.specs.Workings.{Workings}
use Rattle.lay_cell_work.specs.CellInputFits.{CellInputFits, LeadsInward}
use Rattle.lay_cell_work.specs.CellInputs.{CellInput}
use Rattle.lay_cell_work.specs.CellLocal.{IsCellLocal}
use Rattle.lay_cell_work.specs.CellValues.{CellValue}
use Rattle.lay_cell_work.specs.KeptValues.{end_to_end}
use Rattle.lay_cell_work.specs.PresentInputs.{present_input, root_count}

-- the value of the root with the ordinal r of the context c stands at its number
abbrev pub ValuesStandAtNumbers : (X : Type 0) → Type 0
ValuesStandAtNumbers X = (nothing : X) (contexts : List Context) (kept : ℕ → List X) (n c r : ℕ) → c < n → r < root_count contexts c
    → slice_index_or (end_to_end nothing contexts kept n) (first_number contexts c + r) nothing ≡ slice_index_or (kept c) r nothing

-- beside what it is given a cell has one value
abbrev pub OneCellLocal : Type 0
OneCellLocal = (i : CellInput) (v w : CellValue) → LeadsInward i → IsCellLocal i v → IsCellLocal i w → v ≡ w

-- and what cells are given among the contexts of a document goes one way
abbrev pub PresentInputsLeadInward : Type 0
PresentInputsLeadInward = (medium : Medium) (contexts : List Context) (all : List FormattingContext) (w : Workings) (c : ℕ) (phase : Phase)
    → AreContexts contexts → AreFormattingContextsOf contexts all → c < length contexts
    → LeadsInward (present_input medium contexts all w c phase)

-- and are what the type of a cell's input asks for
abbrev pub PresentInputsFit : Type 0
PresentInputsFit = (medium : Medium) (contexts : List Context) (all : List FormattingContext) (w : Workings) (c : ℕ) (phase : Phase)
    → AreContexts contexts → AreFormattingContextsOf contexts all → c < length contexts
    → CellInputFits (present_input medium contexts all w c phase)
