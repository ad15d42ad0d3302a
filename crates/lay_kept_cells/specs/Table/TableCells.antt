-- The cells of the contexts of a table, which are those of a document, and what they are given.
use Rattle.std.specs.Prelude.{ℕ, ◌≡◌, ◌+◌, ◌<◌, List, length, slice_get, Option, option_map}
use Rattle.lay_doc.specs.Document.{Document}
use Rattle.lay_face.specs.FaceValue.{FaceValue}
use Rattle.lay_contexts.specs.FormattingContextList.{first_number}
use Rattle.lay_context.specs.declared.task.Phase.{Phase}
use Rattle.lay_context.specs.declared.task.Phase.TheVariants as phase
use Rattle.lay_context.specs.Medium.{Medium}
use Rattle.lay_context.specs.Settling.{IsReady}
use Rattle.lay_context.specs.Solves.{medium_of}
use Rattle.lay_context.specs.Workings.{Workings}
use Rattle.lay_shape.specs.declared.cell_key.CellKey.{CellKey}
use Rattle.lay_shape.specs.declared.context_phase.ContextPhase.{ContextPhase}
use Rattle.lay_shape.specs.Shapes.{cells_of}
use Rattle.lay_cell_work.specs.CellInputs.{CellInput}
use Rattle.lay_cell_work.specs.KeptValues.{kept_workings}
use Rattle.lay_cell_work.specs.PresentInputs.{key_of, root_count}
use Rattle.lay_cell_work.specs.CellLaws.DocumentCells.{AreDocumentCells}
use Rattle.lay_cell_work.specs.CellLaws.SoundCells.{CellRow, CellState, input_now}
use Rattle.lay_shape.specs.Touched.ContextFlags.{ContextLists}

-- the cells are those of a document with these contexts, which is laid out on this
pub record AreCellsOn (medium : Medium) (t : ContextLists) (s : CellState) : Type 0 where
  pub document : Document
  pub face : FaceValue
  pub medium_is : medium ≡ medium_of document face
  pub cells : AreDocumentCells document face t.contexts t.formatting_contexts s

-- the values that they keep
abbrev pub workings_in : ContextLists → List CellRow → Workings
workings_in t rows = kept_workings rows t.contexts

-- what the cell at a place would be given now
abbrev pub input_at : Medium → ContextLists → List CellRow → ℕ → Option CellInput
input_at medium t rows place =
    option_map (λ c. input_now medium t.contexts t.formatting_contexts rows c.context c.phase) (slice_get (cells_of t.contexts) place)

-- this is what the cell with this key is given now, which is that of a context and a phase
pub record IsGivenBy (medium : Medium) (t : ContextLists) (rows : List CellRow) (key : CellKey) (input : CellInput) : Type 0 where
  pub context : ℕ
  pub phase : Phase
  pub within : context < length t.contexts
  pub key_is : key ≡ key_of t.contexts context phase
  pub input_is : input ≡ input_now medium t.contexts t.formatting_contexts rows context phase

-- The values are there that a cell needs: those that the task of each of its roots needs. The setting of an anonymous root (CSS 2.2,
-- 17.2.1) comes of another root of the same cell.
abbrev pub HaveNeeds : ContextLists → List CellRow → ContextPhase → Type 0
HaveNeeds t rows c = (r : ℕ) → r < root_count t.contexts c.context → (c.phase ≡ phase.Size → r ≡ 0)
    → IsReady t.formatting_contexts (workings_in t rows) (record { context = first_number t.contexts c.context + r; phase = c.phase })
