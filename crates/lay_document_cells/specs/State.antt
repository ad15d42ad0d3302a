-- A document with its cells: three for each of its contexts (CSS 2.2, 9.4.1), in which preferred widths, sizes and places are kept.
use Rattle.std.specs.Prelude.{ℕ, ◌≡◌, ◌≤◌, List, []}
use Rattle.lay_style.specs.declared.style.Style.{Style}
use Rattle.lay_style.specs.ComputedStyle.{HasStyles}
use Rattle.lay_doc.specs.Document.{Document, declarations_of, parents_of}
use Rattle.lay_face.specs.FaceValue.{FaceValue}
use Rattle.lay_cells.specs.Reshapes.{Reshapes}
use Rattle.lay_cells.specs.Progress.Grants.{laid_of_all}
use Rattle.lay_contexts.specs.ContextList.{AreContextsOf}
use Rattle.lay_contexts.specs.FormattingContextList.{AreFormattingContextsOf}
use Rattle.lay_shape.specs.Shapes.{shape_of}
use Rattle.lay_cell_work.specs.CellLaws.DocumentCells.{AreDocumentCells}
use Rattle.lay_cell_work.specs.CellLaws.SoundCells.{CellState}
use Rattle.lay_kept_cells.specs.Steps.CellSteps.{no_cells}
use Rattle.lay_shape.specs.Touched.ContextFlags.{ContextLists}

pub record State : Type 0 where
  pub document : Document
  pub face : FaceValue
  pub cells : CellState
  -- how many claims were granted so far
  pub laid : ℕ

-- the contexts and formatting contexts of a document, with its computed styles
pub record AreStyledLists (d : Document) (styles : List Style) (lists : ContextLists) : Type 0 where
  pub has_styles : HasStyles (parents_of d.nodes) (declarations_of d.nodes) styles
  pub are_contexts : AreContextsOf d.nodes styles lists.contexts
  pub are_formatting_contexts : AreFormattingContextsOf lists.contexts lists.formatting_contexts

-- the same, whatever these styles are; a document has one list of each
abbrev pub AreListsOf : Document → ContextLists → Type 0
AreListsOf d lists = (styles : List Style) × AreStyledLists d styles lists

-- What holds of a document with its cells, whatever calls came before: what a clean cell keeps is of the input that it would be given
-- now, each grant of a cell that is there is counted, and each grant drew a number.
pub record IsOfDocument (s : State) : Type 0 where
  pub lists : ContextLists
  pub cells : AreDocumentCells s.document s.face lists.contexts lists.formatting_contexts s.cells
  pub counted : laid_of_all s.cells.rows ≤ s.laid
  pub drawn : s.laid ≤ s.cells.draws

-- a document to which no call has come: each cell is made anew, and so dirty
pub record IsNew (d : Document) (face : FaceValue) (s : State) : Type 0 where
  pub lists : ContextLists
  pub lists_are : AreListsOf d lists
  pub cells : CellState
  pub made : Reshapes (no_cells 0) (shape_of lists.contexts) [] cells
  pub state : s ≡ record { document = d; face = face; cells = cells; laid = 0 }
