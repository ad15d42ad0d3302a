-- The dependencies of cells are those of a layout: whatever a task of a formatting context needs is a task of a cell on which the cell
-- of that task depends, or of that cell itself, as where a formatting context and an anonymous table in it are of one context.
use Rattle.std.specs.Prelude.{ℕ, ◌≡◌, ◌⊎◌, ◌<◌, true, List, length}
use Rattle.lay_style.specs.declared.style.Style.{Style}
use Rattle.lay_doc.specs.Document.{Document, IsDocument}
use Rattle.lay_cells.specs.Shapes.{IsIn}
use Rattle.lay_context.specs.declared.task.Phase.{Phase}
use Rattle.lay_context.specs.declared.task.Task.{Task}
use Rattle.lay_context.specs.Needs.{Needs}
use Rattle.lay_contexts.specs.ContextList.{AreContextsOf}
use Rattle.lay_contexts.specs.Contexts.{Context, boxes_in}
use Rattle.lay_contexts.specs.FormattingContexts.{FormattingContext}
use Rattle.lay_contexts.specs.FormattingContextList.{AreFormattingContextsOf, number_of}
use Rattle.lay_contexts.specs.Homes.{is_root}
use Rattle.lay_shape.specs.Dependencies.{in_phase, needs_in}

-- the task is of a root of a context, and the cell of that context and phase is one that the cell of the context i depends on in this
-- phase, or is that cell
pub record IsShapedNeed (contexts : List Context) (i : ℕ) (phase : Phase) (needed : Task) : Type 0 where
  pub context : ℕ
  pub root : ℕ
  pub within : context < length contexts
  pub inside : root < length (boxes_in contexts context)
  pub is_root : is_root (boxes_in contexts context) root ≡ true
  pub number : needed.context ≡ number_of contexts context root
  pub shaped : IsIn (needs_in contexts (in_phase phase i)) (in_phase needed.phase context) ⊎ ((context ≡ i) × (needed.phase ≡ phase))

abbrev pub NeedsAreShaped : Type 0
NeedsAreShaped =
    (d : Document) (styles : List Style) (contexts : List Context) (all : List FormattingContext) (i r : ℕ) (phase : Phase) (needed : Task)
    → IsDocument d → length styles ≡ length d.nodes → AreContextsOf d.nodes styles contexts → AreFormattingContextsOf contexts all
    → i < length contexts → r < length (boxes_in contexts i) → is_root (boxes_in contexts i) r ≡ true
    → Needs all (record { context = number_of contexts i r; phase = phase }) needed → IsShapedNeed contexts i phase needed
