-- Which contexts of a document (CSS 2.2, 9.4.1) an edit touches: those that weren't there before it with the same boxes, or of which it
-- changes whether their preferred widths count (10.3.5). What else changes for a context comes of others, on which its cells depend.
use Rattle.std.specs.Prelude.{ℕ, ◌≡◌, ◌<◌, ◌⊎◌, List, length}
use Rattle.lay_cells.specs.Shapes.{IsIn}
use Rattle.lay_contexts.specs.Contexts.{Context, boxes_in}
use Rattle.lay_contexts.specs.FormattingContexts.{FormattingContext}
use Rattle.lay_contexts.specs.FormattingContextList.{first_number}
use Rattle.lay_context.specs.declared.task.Phase.{Phase}
use Rattle.lay_context.specs.Measured.{is_measured}
use Rattle.lay_shape.specs.declared.cell_key.CellKey.{CellKey}
use Rattle.lay_shape.specs.Dependencies.{in_phase}
use Rattle.lay_shape.specs.Keys.{key_of, node_of}

-- The context with the number j after an edit was there before it with the number i: it is of the same node, has the same boxes, and is
-- measured where it was.
pub record IsUntouchedFrom (contexts later : List Context) (all rest : List FormattingContext) (i j : ℕ) : Type 0 where
  pub within : i < length contexts
  pub node : node_of contexts i ≡ node_of later j
  pub boxes : boxes_in contexts i ≡ boxes_in later j
  pub measured : is_measured all (first_number contexts i) ≡ is_measured rest (first_number later j)

-- it was there with some number
abbrev pub IsUntouched : (contexts later : List Context) (all rest : List FormattingContext) (j : ℕ) → Type 0
IsUntouched contexts later all rest j = (i : ℕ) × IsUntouchedFrom contexts later all rest i j

-- it was not
abbrev pub IsTouched : (contexts later : List Context) (all rest : List FormattingContext) (j : ℕ) → Type 0
IsTouched contexts later all rest j = IsUntouched contexts later all rest j → ⊥

-- all cells of touched contexts are listed
abbrev pub ListsTouched : (contexts later : List Context) (all rest : List FormattingContext) (keys : List CellKey) → Type 0
ListsTouched contexts later all rest keys = (j : ℕ) → j < length later
    → IsUntouched contexts later all rest j ⊎ ((phase : Phase) → IsIn keys (key_of later (in_phase phase j)))
