-- What holds of a core through all of its calls. A cell is given one input in the layout of a document; so what is handed in for it, by
-- whoever claims it and in whatever order, is the input of the version that the core had then. Its turns are then changes that lists of
-- edits made, and its grants are paid for by these changes, beside its first and beside the claims that came back. And a claim that a core
-- grants has one work, so a batch of them comes to what they come to one after another, on however many threads.
use Rattle.std.specs.Prelude.{ℕ, ◌≡◌, ◌+◌, ◌≤◌, ◌<◌, Bool, false, List, length, slice_get, Option, Result, Some}
use Rattle.lay_units.specs.declared.memory.NoMemory.{NoMemory}
use Rattle.lay_doc.specs.Document.{Document, IsDocument}
use Rattle.lay_history.specs.declared.edits.history.Entry.{Entry}
use Rattle.lay_face.specs.FaceValue.{FaceValue}
use Rattle.lay_history.specs.Histories.{accepted, doc_at}
use Rattle.lay_frag.specs.Pieces.{Context as PageContext}
use Rattle.lay_cells.specs.Rows.{Solved}
use Rattle.lay_cells.specs.Shapes.{IsIn}
use Rattle.lay_cells.specs.Looks.{Looks}
use Rattle.lay_cells.specs.declared.answers.Look.TheVariants.{Ready}
use Rattle.lay_contexts.specs.Contexts.{Context}
use Rattle.lay_contexts.specs.FormattingContexts.{FormattingContext}
use Rattle.lay_context.specs.declared.task.Phase.{Phase}
use Rattle.lay_context.specs.Solves.{IsAssembled, Solves, medium_of}
use Rattle.lay_cell_work.specs.CellLaws.DocumentCells.{AreDocumentCells}
use Rattle.lay_cell_work.specs.CellLaws.SoundCells.{CellRow, CellState, input_now}
use Rattle.lay_cell_work.specs.CellInputs.{CellInput}
use Rattle.lay_cell_work.specs.CellLocal.{IsCellLocal}
use Rattle.lay_cell_work.specs.CellValues.{CellValue}
use Rattle.lay_cell_work.specs.Claims.{Claim}
use Rattle.lay_cell_work.specs.KeptValues.{workings_of}
use Rattle.lay_shape.specs.Touched.ContextFlags.{ContextLists}
use Rattle.lay_shape.specs.declared.cell_key.CellKey.{CellKey}
use Rattle.lay_shape.specs.declared.context_phase.ContextPhase.{ContextPhase}
use Rattle.lay_shape.specs.Keys.{key_of}
use Rattle.lay_cell_work.specs.declared.claim_lists.outcome.Outcome.{Outcome}
use Rattle.lay_cell_work.specs.declared.claim_lists.outcome.Outcome.TheVariants.{Done}
use Rattle.lay_cell_work.specs.ClaimLists.Outcomes.{AreOutcomesOf, IsWorkOf, Work}
use Rattle.lay_document_cells.specs.declared.idle.IdleKind.{IdleKind}
use Rattle.lay_document_cells.specs.State.{AreListsOf}
use Rattle.lay_core.specs.Claims.{ClaimsSome}
use Rattle.lay_core.specs.State.{IsCore, State}
use Rattle.lay_core.specs.CoreLaws.GivenInputs.{IsGivenIn, IsRightAmong, input_among}
use Rattle.lay_core.specs.CoreLaws.InputChanges.{AreChanges, changes}
use Rattle.lay_core.specs.CoreLaws.ReachedCores.{IsReached}
use Rattle.lay_core.specs.CoreLaws.Turns.{HasTurned, Turned}

-- a cell is given one input in the layout of a document
abbrev pub OneGivenInput : Type 0
OneGivenInput = (d : Document) (face : FaceValue) (key : CellKey) (a b : CellInput) → IsGivenIn d face key a → IsGivenIn d face key b
    → a ≡ b

-- and that is what it is given among the values that cells keep, where a look shows that it is ready
abbrev pub ReadyCellsAreGiven : Type 0
ReadyCellsAreGiven = (d : Document) (face : FaceValue) (contexts : List Context) (all : List FormattingContext) (s : CellState)
    (cell : ContextPhase) → AreDocumentCells d face contexts all s → cell.context < length contexts
    → Looks s.rows (key_of contexts cell) Ready
    → IsGivenIn d face (key_of contexts cell) (input_now (medium_of d face) contexts all s.rows cell.context cell.phase)

-- What a cell keeps that isn't dirty is of the input that it is given in the layout of the document as it is, and right beside that.
abbrev pub CleanCellsAreGiven : Type 0
CleanCellsAreGiven = (d : Document) (face : FaceValue) (contexts : List Context) (all : List FormattingContext) (s : CellState)
    (cell : ContextPhase) (r : CellRow) (kept : Solved CellKey CellInput CellValue) → AreDocumentCells d face contexts all s
    → cell.context < length contexts → IsIn s.rows r → r.key ≡ key_of contexts cell → r.dirty ≡ false → r.kept ≡ Some kept
    → IsGivenIn d face (key_of contexts cell) kept.input × IsCellLocal kept.input kept.value

-- where the value of each cell is right, the tree of these values is the layout of the document, and among them each is given that input
abbrev pub LayoutsGiveInputs : Type 0
LayoutsGiveInputs = (d : Document) (face : FaceValue) (lists : ContextLists) (values : ℕ → Phase → CellValue) (tree : List PageContext)
    → IsDocument d → AreListsOf d lists
    → ((cell : ContextPhase) → cell.context < length lists.contexts → IsRightAmong (medium_of d face) lists values cell)
    → IsAssembled lists.formatting_contexts (workings_of lists.contexts values) tree
    → Solves d face tree
    × ((cell : ContextPhase) → cell.context < length lists.contexts
    → IsGivenIn d face (key_of lists.contexts cell) (input_among (medium_of d face) lists values cell))

-- a history has one list of changes of a cell's input
abbrev pub OneListOfChanges : Type 0
OneListOfChanges = (init : Document) (face : FaceValue) (history : List Entry) (key : CellKey) (flags others : List Bool)
    → AreChanges init face history key flags → AreChanges init face history key others → flags ≡ others

-- and it has not more turns than changes
abbrev pub TurnsAreFew : Type 0
TurnsAreFew = (init : Document) (face : FaceValue) (history : List Entry) (key : CellKey) (turns version : ℕ) (input : CellInput)
    (flags : List Bool) → Turned init face history key turns version input → AreChanges init face history key flags → turns ≤ changes flags

-- whatever calls came, the turns of each cell that is there are of versions of the document
abbrev pub TurnsAreOfVersions : Type 0
TurnsAreOfVersions = (init : Document) (face : FaceValue) (s : State) (r : CellRow) → IsReached init face s → IsIn s.cells.rows r
    → HasTurned init face s.history r.key r.given r.turns

-- so they are at most the accepted lists of edits, and the changes of its input that these made
abbrev pub TurnsAreWithin : Type 0
TurnsAreWithin = (init : Document) (face : FaceValue) (s : State) (r : CellRow) → IsReached init face s → IsIn s.cells.rows r
    → r.turns ≤ accepted s.history

abbrev pub TurnsAreChanges : Type 0
TurnsAreChanges = (init : Document) (face : FaceValue) (s : State) (r : CellRow) (flags : List Bool) → IsReached init face s
    → IsIn s.cells.rows r → AreChanges init face s.history r.key flags → r.turns ≤ changes flags

-- and its grants are at most one more than either of these and the claims of it that were given back
abbrev pub GrantsAreWithin : Type 0
GrantsAreWithin = (init : Document) (face : FaceValue) (s : State) (r : CellRow) → IsReached init face s → IsIn s.cells.rows r
    → r.laid ≤ 1 + (accepted s.history + r.backs)

abbrev pub GrantsArePaidByChanges : Type 0
GrantsArePaidByChanges = (init : Document) (face : FaceValue) (s : State) (r : CellRow) (flags : List Bool) → IsReached init face s
    → IsIn s.cells.rows r → AreChanges init face s.history r.key flags → r.laid ≤ 1 + (changes flags + r.backs)

-- the document and the face stay those of the new core
abbrev pub OriginsStay : Type 0
OriginsStay = (init : Document) (face : FaceValue) (s : State) → IsReached init face s → (s.init ≡ init) × (s.face ≡ face)

-- each version is a document within the limits
abbrev pub VersionsAreDocuments : Type 0
VersionsAreDocuments = (init : Document) (face : FaceValue) (s : State) (version : ℕ) → IsReached init face s
    → IsDocument (doc_at init s.history version)

-- A claim that a core grants has one work, whoever does it.
abbrev pub GrantedClaimsHaveOneWork : Type 0
GrantedClaimsHaveOneWork = (s t : State) (limit : ℕ) (claims : List Claim) (answer : Result (Option IdleKind) NoMemory)
    (place : ℕ) (c : Claim) (d e : Work) → IsCore s → ClaimsSome s limit claims answer t
    → slice_get claims place ≡ Some c → IsWorkOf c d → IsWorkOf c e → d ≡ e

-- So what a batch of claims that a core granted has come to at a place is what the claim there comes to by itself.
abbrev pub GrantedBatchesAreOneByOne : Type 0
GrantedBatchesAreOneByOne = (s t : State) (limit : ℕ) (claims : List Claim) (answer : Result (Option IdleKind) NoMemory)
    (outcomes : List Outcome) (place : ℕ) (c : Claim) (d e : Work) → IsCore s → ClaimsSome s limit claims answer t
    → AreOutcomesOf claims outcomes → slice_get claims place ≡ Some c → slice_get outcomes place ≡ Some (Done d) → IsWorkOf c e → d ≡ e
