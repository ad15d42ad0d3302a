-- What an edit does to the cells of a document. They take the shape of the contexts after it (CSS 2.2, 9.4.1), and those of each context
-- that it touches are marked, with all that depend on them. A context is untouched that was there before with the same boxes, where its
-- preferred widths count for as much (10.3.5): so touched contexts are found by comparison. What cells that are clean after that keep is of
-- what they would be given now, as they and all that they depend on are of untouched contexts and keep the same values.
use Rattle.std.specs.Prelude.{◌≡◌, ◌⊎◌, List, [], map}
use Rattle.lay_style.specs.declared.style.Style.{Style}
use Rattle.lay_doc.specs.declared.edit.Edit.{Edit}
use Rattle.lay_doc.specs.Document.{Document}
use Rattle.lay_doc.specs.Edits.{after}
use Rattle.lay_face.specs.FaceValue.{FaceValue}
use Rattle.lay_cells.specs.Marks.{Marks}
use Rattle.lay_cells.specs.Reshapes.{Reshapes}
use Rattle.lay_cells.specs.Rows.{entry_of}
use Rattle.lay_cells.specs.Sound.{IsSound}
use Rattle.lay_contexts.specs.Contexts.{Context}
use Rattle.lay_contexts.specs.ContextList.{AreContextsOf}
use Rattle.lay_contexts.specs.FormattingContexts.{FormattingContext}
use Rattle.lay_contexts.specs.FormattingContextList.{AreFormattingContextsOf}
use Rattle.lay_contexts.specs.Edited.Touched.{Edits}
use Rattle.lay_shape.specs.declared.cell_key.CellKey.{CellKey}
use Rattle.lay_shape.specs.Shapes.{shape_of}
use Rattle.lay_shape.specs.Touched.TouchedContexts.{ListsTouched}
use Rattle.lay_cell_work.specs.CellLocal.{IsCellLocal}
use Rattle.lay_cell_work.specs.CellLaws.DocumentCells.{AreDocumentCells}
use Rattle.lay_cell_work.specs.CellLaws.SoundCells.{CellState}

-- the cells take the shape of these contexts with nothing fresh, or have it already and are left as they are
abbrev pub TakesShape : List Context → (s t : CellState) → Type 0
TakesShape later s t = Reshapes s (shape_of later) [] t ⊎ ((map entry_of s.rows ≡ shape_of later) × (t ≡ s))

-- The cells s were those of some contexts, and t is what becomes of them among later ones: they take the shape of these, and then those
-- that are listed are marked.
pub record FollowsContexts (contexts later : List Context) (all rest : List FormattingContext) (s t : CellState) : Type 0 where
  pub shaped : CellState
  pub takes : TakesShape later s shaped
  pub keys : List CellKey
  pub touched : ListsTouched contexts later all rest keys
  pub marks : Marks shaped.rows keys t.rows

-- Cells that follow the contexts of a document through an edit are those of the document after it.
abbrev pub EditsKeepCells : Type 0
EditsKeepCells = (d : Document) (edit : Edit) (face : FaceValue) (styles others : List Style)
    (contexts later : List Context) (all rest : List FormattingContext) (s t : CellState)
    → Edits d edit styles others → AreDocumentCells d face contexts all s
    → AreContextsOf (after d edit).nodes others later → AreFormattingContextsOf later rest
    → FollowsContexts contexts later all rest s t → IsSound IsCellLocal t
    → AreDocumentCells (after d edit) face later rest t
