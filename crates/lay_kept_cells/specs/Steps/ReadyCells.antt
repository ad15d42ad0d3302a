-- What is known of the values that the cells of a document keep. As many as there are formatting contexts are always there, laid end to
-- end; a clean cell's are of the boxes of its context; so a cell that is ready, as all that it depends on is clean, can be given what its
-- tasks ask for, and where all cells are clean the tree can be put together, which is the layout of the document.
use Rattle.std.specs.Prelude.{ℕ, ◌≡◌, ◌+◌, ◌<◌, List, length}
use Rattle.lay_doc.specs.Document.{Document}
use Rattle.lay_face.specs.FaceValue.{FaceValue}
use Rattle.lay_frag.specs.Pieces.{Context as PageContext}
use Rattle.lay_cells.specs.Looks.{Looks}
use Rattle.lay_cells.specs.Reads.{AllClean}
use Rattle.lay_cells.specs.declared.answers.Look.TheVariants as look
use Rattle.lay_contexts.specs.Contexts.{Context}
use Rattle.lay_contexts.specs.FormattingContexts.{FormattingContext}
use Rattle.lay_contexts.specs.FormattingContextList.{AreFormattingContextsOf, first_number}
use Rattle.lay_context.specs.declared.task.Phase.{Phase}
use Rattle.lay_context.specs.declared.task.Phase.TheVariants.{Size}
use Rattle.lay_context.specs.Local.{HasCounts}
use Rattle.lay_context.specs.Settling.{AreKnown, IsReady}
use Rattle.lay_context.specs.Solves.{IsAssembled, Solves}
use Rattle.lay_cell_work.specs.KeptValues.{kept_workings}
use Rattle.lay_cell_work.specs.PresentInputs.{key_of, root_count}
use Rattle.lay_cell_work.specs.CellLaws.DocumentCells.{AreDocumentCells}
use Rattle.lay_cell_work.specs.CellLaws.SoundCells.{CellRow, CellState}

-- There is a value for each formatting context, whatever cells there are.
abbrev pub KeptValuesAreCounted : Type 0
KeptValuesAreCounted = (contexts : List Context) (all : List FormattingContext) (rows : List CellRow)
    → AreFormattingContextsOf contexts all → HasCounts all (kept_workings rows contexts)

-- Where a look at the cell of a context shows that it is ready, the values are there that the task of its root r needs. Only the sizes of
-- an anonymous root, which is not the first one of its context, come of those of another root of the same cell (CSS 2.2, 10.1 and 17.2.1).
abbrev pub ReadyToInput : Type 0
ReadyToInput = (d : Document) (face : FaceValue) (contexts : List Context) (all : List FormattingContext) (s : CellState)
    (c r : ℕ) (phase : Phase) → AreDocumentCells d face contexts all s → c < length contexts → r < root_count contexts c
    → (phase ≡ Size → r ≡ 0)
    → Looks s.rows (key_of contexts c phase) look.Ready
    → IsReady all (kept_workings s.rows contexts) (record { context = first_number contexts c + r; phase = phase })

-- Where all cells are clean, the columns that a tree is put together of are as long as the boxes that they are of,
abbrev pub CleanCellsAreKnown : Type 0
CleanCellsAreKnown = (d : Document) (face : FaceValue) (contexts : List Context) (all : List FormattingContext) (s : CellState)
    → AreDocumentCells d face contexts all s → AllClean s.rows → AreKnown all (kept_workings s.rows contexts)

-- and that tree is the layout of the document.
abbrev pub AssembledTreesSolve : Type 0
AssembledTreesSolve = (d : Document) (face : FaceValue) (contexts : List Context) (all : List FormattingContext) (s : CellState)
    (tree : List PageContext) → AreDocumentCells d face contexts all s → AllClean s.rows
    → IsAssembled all (kept_workings s.rows contexts) tree → Solves d face tree
