-- The cells of a document: there is a cell for each of its contexts (CSS 2.2, 9.4.1) and phase, in the order of their shape, and what a
-- clean cell keeps is of the input that it would be given now.
use Rattle.std.specs.Prelude.{◌≡◌, List, map}
use Rattle.lay_style.specs.declared.style.Style.{Style}
use Rattle.lay_style.specs.ComputedStyle.{HasStyles}
use Rattle.lay_doc.specs.Document.{Document, IsDocument, declarations_of, parents_of}
use Rattle.lay_face.specs.FaceValue.{FaceValue}
use Rattle.lay_cells.specs.Rows.{entry_of}
use Rattle.lay_contexts.specs.Contexts.{Context}
use Rattle.lay_contexts.specs.ContextList.{AreContextsOf}
use Rattle.lay_contexts.specs.FormattingContexts.{FormattingContext}
use Rattle.lay_contexts.specs.FormattingContextList.{AreFormattingContextsOf}
use Rattle.lay_context.specs.Solves.{medium_of}
use Rattle.lay_shape.specs.Shapes.{shape_of}
use Rattle.lay_cell_work.specs.CellLaws.SoundCells.{AreCellsOf, CellState}

-- these are the contexts and the formatting contexts of the document, and the cells are those of its shape and keep values of it
pub record AreDocumentCells (d : Document) (face : FaceValue) (contexts : List Context) (all : List FormattingContext) (s : CellState)
    : Type 0 where
  pub is_document : IsDocument d
  pub styles : List Style
  pub has_styles : HasStyles (parents_of d.nodes) (declarations_of d.nodes) styles
  pub are_contexts : AreContextsOf d.nodes styles contexts
  pub are_formatting_contexts : AreFormattingContextsOf contexts all
  pub shaped : map entry_of s.rows ≡ shape_of contexts
  pub cells : AreCellsOf (medium_of d face) contexts all s
