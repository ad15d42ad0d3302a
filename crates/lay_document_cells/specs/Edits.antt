-- What a list of edits of a document does to its cells. They take the shape of the contexts after it (CSS 2.2, 9.4.1), where cells of new
-- contexts are made and those of contexts that are gone are dropped; and then those of the contexts that the list touches are marked, with
-- all that depend on them.
use Rattle.std.specs.Prelude.{◌≡◌, List, []}
use Rattle.lay_doc.specs.declared.edit.Edit.{Edit}
use Rattle.lay_history.specs.Edits.EditLists.{after_all}
use Rattle.lay_cells.specs.Marks.{Marks}
use Rattle.lay_cells.specs.Reshapes.{Reshapes}
use Rattle.lay_shape.specs.declared.cell_key.CellKey.{CellKey}
use Rattle.lay_shape.specs.Shapes.{shape_of}
use Rattle.lay_cell_work.specs.CellLaws.SoundCells.{CellState}
use Rattle.lay_shape.specs.Touched.ContextFlags.{ContextLists}
use Rattle.lay_shape.specs.Touched.TouchedKeys.{AreTouchedKeys}
use Rattle.lay_document_cells.specs.State.{AreListsOf, State}

-- the cells s of the contexts before an edit became t, which are cells of those after it
pub record FollowsLists (before later : ContextLists) (s t : CellState) : Type 0 where
  pub shaped : CellState
  pub reshapes : Reshapes s (shape_of later.contexts) [] shaped
  pub keys : List CellKey
  pub touched : AreTouchedKeys before.contexts later.contexts before.formatting_contexts later.formatting_contexts keys
  pub marks : Marks shaped.rows keys t.rows
  pub draws : t.draws ≡ shaped.draws

-- the list of edits of a document is applied
pub record CellsEditTo (s : State) (edits : List Edit) (t : State) : Type 0 where
  pub before : ContextLists
  pub before_are : AreListsOf s.document before
  pub later : ContextLists
  pub later_are : AreListsOf (after_all s.document edits) later
  pub cells : CellState
  pub follows : FollowsLists before later s.cells cells
  pub state : t ≡ record s { document = after_all s.document edits; cells = cells }
