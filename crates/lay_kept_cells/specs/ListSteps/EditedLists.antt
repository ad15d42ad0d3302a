-- What a list of edits does to the cells of a document. They take the shape of the contexts after the whole list (CSS 2.2, 9.4.1), and
-- those of each context are marked that isn't there before the first edit with the same boxes, with all that depend on them. What is
-- clean after that keeps what it would be given now. No cell is asked for between two edits of a list.
use Rattle.std.specs.Prelude.{◌≡◌, List, None}
use Rattle.std.specs.List.{All}
use Rattle.lay_style.specs.declared.style.Style.{Style}
use Rattle.lay_style.specs.ComputedStyle.{HasStyles}
use Rattle.lay_doc.specs.declared.edit.Edit.{Edit}
use Rattle.lay_doc.specs.Document.{Document, IsDocument, declarations_of, parents_of}
use Rattle.lay_doc.specs.Laws.{PutsNode}
use Rattle.lay_face.specs.FaceValue.{FaceValue}
use Rattle.lay_cells.specs.Sound.{IsSound}
use Rattle.lay_contexts.specs.Contexts.{Context}
use Rattle.lay_contexts.specs.ContextList.{AreContextsOf}
use Rattle.lay_contexts.specs.FormattingContexts.{FormattingContext}
use Rattle.lay_contexts.specs.FormattingContextList.{AreFormattingContextsOf}
use Rattle.lay_history.specs.Edits.EditLists.{after_all, first}
use Rattle.lay_cell_work.specs.CellLocal.{IsCellLocal}
use Rattle.lay_cell_work.specs.CellLaws.DocumentCells.{AreDocumentCells}
use Rattle.lay_cell_work.specs.CellLaws.SoundCells.{CellState}
use Rattle.lay_kept_cells.specs.Steps.EditedCells.{FollowsContexts}

-- a list of edits that a document takes, with the computed styles before and after it
pub record TakesList (d : Document) (edits : List Edit) (styles others : List Style) : Type 0 where
  pub document : IsDocument d
  pub puts : All PutsNode edits
  pub accepted : first d edits ≡ None
  pub before : HasStyles (parents_of d.nodes) (declarations_of d.nodes) styles
  pub after : HasStyles (parents_of (after_all d edits).nodes) (declarations_of (after_all d edits).nodes) others

-- cells that follow the contexts of a document through a list of edits are those of the document after it
abbrev pub ListsKeepCells : Type 0
ListsKeepCells = (d : Document) (edits : List Edit) (face : FaceValue) (styles others : List Style)
    (contexts later : List Context) (all rest : List FormattingContext) (s t : CellState)
    → TakesList d edits styles others → AreDocumentCells d face contexts all s
    → AreContextsOf (after_all d edits).nodes others later → AreFormattingContextsOf later rest
    → FollowsContexts contexts later all rest s t → IsSound IsCellLocal t
    → AreDocumentCells (after_all d edits) face later rest t
