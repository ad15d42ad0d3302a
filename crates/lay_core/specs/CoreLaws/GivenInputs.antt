-- What a cell is given in the layout of a document. A cell is of a context (CSS 2.2, 9.4.1) and a phase, and what it is given comes of the
-- values of the cells that it depends on, which come of those that they depend on. In the layout each of these is right beside what it is
-- given among them. What cells keep, when they were worked on and whether they are dirty isn't in it.
--
-- For example, the placement of the root depends on that of a float in it, and through that on the float's sizes and on the root's.
use Rattle.std.specs.Prelude.{ℕ, ◌≡◌, ◌<◌, List, length}
use Rattle.lay_doc.specs.Document.{Document, IsDocument}
use Rattle.lay_face.specs.FaceValue.{FaceValue}
use Rattle.lay_cells.specs.Shapes.{IsIn}
use Rattle.lay_contexts.specs.Contexts.{Context}
use Rattle.lay_context.specs.declared.task.Phase.{Phase}
use Rattle.lay_context.specs.Medium.{Medium}
use Rattle.lay_context.specs.Solves.{medium_of}
use Rattle.lay_shape.specs.Touched.ContextFlags.{ContextLists}
use Rattle.lay_shape.specs.declared.cell_key.CellKey.{CellKey}
use Rattle.lay_shape.specs.declared.context_phase.ContextPhase.{ContextPhase}
use Rattle.lay_shape.specs.Dependencies.{needs_in}
use Rattle.lay_shape.specs.Keys.{key_of}
use Rattle.lay_cell_work.specs.CellInputs.{CellInput}
use Rattle.lay_cell_work.specs.CellLocal.{IsCellLocal}
use Rattle.lay_cell_work.specs.CellValues.{CellValue}
use Rattle.lay_cell_work.specs.KeptValues.{workings_of}
use Rattle.lay_cell_work.specs.PresentInputs.{present_input}
use Rattle.lay_document_cells.specs.State.{AreListsOf}

-- the cell depends on this one, by itself or through others
pub data DependsOn (contexts : List Context) (cell : ContextPhase) : ContextPhase → Type 0 where
  directly : (need : ContextPhase) → IsIn (needs_in contexts cell) need → DependsOn contexts cell need
  through : (mid need : ContextPhase) → DependsOn contexts cell mid → IsIn (needs_in contexts mid) need → DependsOn contexts cell need

-- what the cell is given among these values, of each context and phase
abbrev pub input_among : Medium → ContextLists → (ℕ → Phase → CellValue) → ContextPhase → CellInput
input_among medium lists values cell =
    present_input medium lists.contexts lists.formatting_contexts (workings_of lists.contexts values) cell.context cell.phase

-- its value is right beside that
abbrev pub IsRightAmong : Medium → ContextLists → (ℕ → Phase → CellValue) → ContextPhase → Type 0
IsRightAmong medium lists values cell = IsCellLocal (input_among medium lists values cell) (values cell.context cell.phase)

-- the cell of one of these contexts has the key
pub record IsCellOfKey (contexts : List Context) (key : CellKey) (cell : ContextPhase) : Type 0 where
  pub within : cell.context < length contexts
  pub key_is : key ≡ key_of contexts cell

-- among these contexts the cell of the key is given this, where each value that it comes of is right
pub record IsGivenAmong (medium : Medium) (lists : ContextLists) (key : CellKey) (input : CellInput) : Type 0 where
  pub cell : ContextPhase
  pub cell_is : IsCellOfKey lists.contexts key cell
  pub values : ℕ → Phase → CellValue
  pub right : (need : ContextPhase) → DependsOn lists.contexts cell need → IsRightAmong medium lists values need
  pub input_is : input ≡ input_among medium lists values cell

-- so it is given this in the layout of the document
pub record IsGivenIn (d : Document) (face : FaceValue) (key : CellKey) (input : CellInput) : Type 0 where
  pub is_document : IsDocument d
  pub lists : ContextLists
  pub lists_are : AreListsOf d lists
  pub among : IsGivenAmong (medium_of d face) lists key input

-- a cell of the document has the key
pub record HasCell (d : Document) (key : CellKey) : Type 0 where
  pub lists : ContextLists
  pub lists_are : AreListsOf d lists
  pub cell : ContextPhase
  pub cell_is : IsCellOfKey lists.contexts key cell
