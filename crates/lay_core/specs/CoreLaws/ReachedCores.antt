-- The cores that calls lead to, whatever calls, in whatever order and with whatever answers, from one that is new. Each call is said as the
-- contract of its function says it, and what a core keeps is `IsCore` of lay_core, which its type says of it after each call.
use Rattle.std.specs.Prelude.{ℕ, List, Option, Result}
use Rattle.lay_units.specs.declared.memory.NoMemory.{NoMemory}
use Rattle.lay_doc.specs.declared.edit.Edit.{Edit}
use Rattle.lay_doc.specs.Document.{Document}
use Rattle.lay_history.specs.declared.edits.command.Reply.{Reply}
use Rattle.lay_face.specs.FaceValue.{FaceValue}
use Rattle.lay_cells.specs.declared.answers.Finished.{Finished}
use Rattle.lay_cells.specs.declared.answers.Released.{Released}
use Rattle.lay_cell_work.specs.Claims.{Claim}
use Rattle.lay_cell_work.specs.declared.claim_lists.outcome.Outcome.{Outcome}
use Rattle.lay_document_cells.specs.Outcomes.{Tally}
use Rattle.lay_cell_work.specs.ClaimLists.Outcomes.{Work}
use Rattle.lay_document_cells.specs.declared.answers.Answer.{Answer}
use Rattle.lay_document_cells.specs.declared.answers.Next.{Next}
use Rattle.lay_document_cells.specs.declared.idle.IdleKind.{IdleKind}
use Rattle.lay_shape.specs.declared.cell_key.CellKey.{CellKey}
use Rattle.lay_core.specs.Claims.{AnswersClaim, AnswersNext, ClaimsSome, FinishesAll, FinishesTo, GivesBackTo}
use Rattle.lay_core.specs.Publishing.{PublishesTo, RefreshesTo}
use Rattle.lay_core.specs.State.{IsCore, State}
use Rattle.lay_core.specs.Steps.{EditsTo, IsNewCore, LatestTo, SyncTo}
use Rattle.lay_core.specs.Work.{MaySettle}
use Rattle.lay_core.specs.declared.answers.Publish.{Publish}

-- a call on a core leaves this
pub data CallsTo (s : State) : State → Type 0 where
  edit : (editor index : ℕ) (edits : List Edit) (reply : Reply) (t : State) → EditsTo s editor index edits reply t → CallsTo s t
  latest : (editor index : ℕ) (reply : Reply) (t : State) → LatestTo s editor index reply t → CallsTo s t
  sync : (editor index : ℕ) (reply : Reply) (t : State) → SyncTo s editor index reply t → CallsTo s t
  -- settled, or memory ran out
  settle : (t : State) → MaySettle s t → CallsTo s t
  refresh : (t : State) → RefreshesTo s t → CallsTo s t
  publish : (answer : Publish) (t : State) → PublishesTo s answer t → CallsTo s t
  claim : (key : CellKey) (answer : Answer) (t : State) → AnswersClaim s key answer t → CallsTo s t
  claim_next : (next : Next) (t : State) → AnswersNext s next t → CallsTo s t
  claim_some : (limit : ℕ) (claims : List Claim) (answer : Result (Option IdleKind) NoMemory) (t : State)
      → ClaimsSome s limit claims answer t → CallsTo s t
  finish : (done : Work) (answer : Finished) (t : State) → FinishesTo s done answer t → CallsTo s t
  finish_all : (outcomes : List Outcome) (tally : Tally) (t : State) → FinishesAll s outcomes tally t → CallsTo s t
  give_back : (key : CellKey) (number : ℕ) (answer : Released) (t : State)
      → GivesBackTo s key number answer t → CallsTo s t

-- calls lead to it from a new core of this document and face
pub data IsReached (init : Document) (face : FaceValue) : State → Type 0 where
  new : (calls : ℕ) (s : State) → IsNewCore init face calls s → IsCore s → IsReached init face s
  called : (s t : State) → IsReached init face s → CallsTo s t → IsCore t → IsReached init face t
