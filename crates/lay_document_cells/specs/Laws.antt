-- What work on the cells of a document keeps, and that an edit leaves one state.
use Rattle.std.specs.Prelude.{ℕ, ◌≡◌, ◌+◌, ◌*◌, ◌≤◌, List, length, Option, Result}
use Rattle.lay_units.specs.declared.memory.NoMemory.{NoMemory}
use Rattle.lay_doc.specs.declared.edit.Edit.{Edit}
use Rattle.lay_doc.specs.Document.{IsDocument}
use Rattle.lay_history.specs.Edits.EditLists.{after_all}
use Rattle.lay_cells.specs.Reads.{AllClean}
use Rattle.lay_cells.specs.Progress.Grants.{laid_of_all}
use Rattle.lay_cells.specs.Progress.Progress.{GivesNoneBack, KeepsRows}
use Rattle.lay_shape.specs.declared.cell_key.CellKey.{CellKey}
use Rattle.lay_cell_work.specs.Claims.{Claim}
use Rattle.lay_cell_work.specs.declared.claim_lists.outcome.Outcome.{Outcome}
use Rattle.lay_document_cells.specs.Batches.{CellsClaimSome}
use Rattle.lay_document_cells.specs.Claims.{CellsAnswerClaim, CellsAnswerNext}
use Rattle.lay_document_cells.specs.Edits.{CellsEditTo}
use Rattle.lay_document_cells.specs.Outcomes.{CellsFinishAll, Tally}
use Rattle.lay_document_cells.specs.Settling.{Settles, CellsSettleTo, CellsStopAt}
use Rattle.lay_document_cells.specs.State.{IsOfDocument, State}
use Rattle.lay_document_cells.specs.Steps.{Works}
use Rattle.lay_document_cells.specs.declared.answers.Answer.{Answer}
use Rattle.lay_document_cells.specs.declared.answers.Next.{Next}
use Rattle.lay_document_cells.specs.declared.idle.IdleKind.{IdleKind}

-- no cell is made anew, dropped or dirtied, and each grant is counted once
pub record KeepsCells (s t : State) : Type 0 where
  pub document : t.document ≡ s.document
  pub face : t.face ≡ s.face
  pub cells : KeepsRows s.cells t.cells
  pub laid : s.laid ≤ t.laid
  pub granted : s.laid + laid_of_all t.cells.rows ≡ t.laid + laid_of_all s.cells.rows

abbrev pub WorkKeepsCells : Type 0
WorkKeepsCells = (s t : State) → Works s t → KeepsCells s t

-- settling is work, as far as it comes
abbrev pub SettlingWorks : Type 0
SettlingWorks = (s t : State) → Settles s t → Works s t

abbrev pub StoppingWorks : Type 0
StoppingWorks = (s t : State) → CellsStopAt s t → Works s t

-- so are claims, one by one and by the batch, and what comes of them
abbrev pub ClaimsWork : Type 0
ClaimsWork = (s t : State) (key : CellKey) (answer : Answer) → CellsAnswerClaim s key answer t → Works s t

abbrev pub NextClaimsWork : Type 0
NextClaimsWork = (s t : State) (answer : Next) → CellsAnswerNext s answer t → Works s t

abbrev pub BatchesWork : Type 0
BatchesWork = (s t : State) (limit : ℕ) (claims : List Claim) (answer : Result (Option IdleKind) NoMemory)
    → CellsClaimSome s limit claims answer t → Works s t

abbrev pub OutcomesWork : Type 0
OutcomesWork = (s t : State) (outcomes : List Outcome) (tally : Tally) → CellsFinishAll s outcomes tally t → Works s t

-- it gives no claim back, unless it stops
abbrev pub SettlingGivesNothingBack : Type 0
SettlingGivesNothingBack = (s t : State) → Settles s t → GivesNoneBack s.cells t.cells

-- a list of edits leaves one state
abbrev pub OneEdit : Type 0
OneEdit = (s t u : State) (edits : List Edit) → IsOfDocument s → IsDocument (after_all s.document edits)
    → CellsEditTo s edits t → CellsEditTo s edits u → t ≡ u

-- where all cells are clean, three grants were counted for each context
abbrev pub CleanCellsAreCounted : Type 0
CleanCellsAreCounted = (s : State) (of : IsOfDocument s) → AllClean s.cells.rows → 3 * length of.lists.contexts ≤ s.laid
