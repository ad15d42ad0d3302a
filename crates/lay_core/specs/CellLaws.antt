-- What becomes of the cells of a core. No call but an edit makes a cell, drops one or dirties one: what such a call does to them is steps
-- of work, by `Works` of lay_document_cells. So a clean cell stays clean, and each grant is one of the number of grants.
use Rattle.std.specs.Prelude.{ℕ, ◌≡◌, List, Option, Result}
use Rattle.lay_units.specs.declared.memory.NoMemory.{NoMemory}
use Rattle.lay_history.specs.declared.edits.command.Reply.{Reply}
use Rattle.lay_cells.specs.declared.answers.Finished.{Finished}
use Rattle.lay_cells.specs.declared.answers.Released.{Released}
use Rattle.lay_shape.specs.declared.cell_key.CellKey.{CellKey}
use Rattle.lay_cell_work.specs.Claims.{Claim}
use Rattle.lay_cell_work.specs.declared.claim_lists.outcome.Outcome.{Outcome}
use Rattle.lay_document_cells.specs.Outcomes.{Tally}
use Rattle.lay_document_cells.specs.Steps.{Works}
use Rattle.lay_cell_work.specs.ClaimLists.Outcomes.{Work}
use Rattle.lay_document_cells.specs.declared.answers.Answer.{Answer}
use Rattle.lay_document_cells.specs.declared.answers.Next.{Next}
use Rattle.lay_document_cells.specs.declared.idle.IdleKind.{IdleKind}
use Rattle.lay_core.specs.Claims.{AnswersClaim, AnswersNext, ClaimsSome, FinishesAll, FinishesTo, GivesBackTo}
use Rattle.lay_core.specs.Publishing.{PublishesTo, RefreshesTo}
use Rattle.lay_core.specs.State.{State, document_cells}
use Rattle.lay_core.specs.Steps.{LatestTo, SyncTo}
use Rattle.lay_core.specs.Work.{SettlesTo, StopsAt}
use Rattle.lay_core.specs.declared.answers.Publish.{Publish}

-- what is done so to a core is work on its cells
abbrev pub IsWork : (State → State → Type 0) → Type 0
IsWork Does = (s t : State) → Does s t → Works (document_cells s) (document_cells t)

abbrev pub SettlingIsWork : Type 0
SettlingIsWork = IsWork SettlesTo

abbrev pub StoppingIsWork : Type 0
StoppingIsWork = IsWork StopsAt

abbrev pub PublishingIsWork : Type 0
PublishingIsWork = (p : Publish) → IsWork (λ s t. PublishesTo s p t)

abbrev pub RefreshingIsWork : Type 0
RefreshingIsWork = IsWork RefreshesTo

abbrev pub LatestIsWork : Type 0
LatestIsWork = (editor index : ℕ) (reply : Reply) → IsWork (λ s t. LatestTo s editor index reply t)

abbrev pub SyncIsWork : Type 0
SyncIsWork = (editor index : ℕ) (reply : Reply) → IsWork (λ s t. SyncTo s editor index reply t)

abbrev pub ClaimsAreWork : Type 0
ClaimsAreWork = (key : CellKey) (answer : Answer) → IsWork (λ s t. AnswersClaim s key answer t)

abbrev pub NextClaimsAreWork : Type 0
NextClaimsAreWork = (next : Next) → IsWork (λ s t. AnswersNext s next t)

abbrev pub FinishesAreWork : Type 0
FinishesAreWork = (done : Work) (answer : Finished) → IsWork (λ s t. FinishesTo s done answer t)

abbrev pub GiveBacksAreWork : Type 0
GiveBacksAreWork = (key : CellKey) (number : ℕ) (answer : Released) → IsWork (λ s t. GivesBackTo s key number answer t)

abbrev pub BatchesAreWork : Type 0
BatchesAreWork =
    (limit : ℕ) (claims : List Claim) (answer : Result (Option IdleKind) NoMemory) → IsWork (λ s t. ClaimsSome s limit claims answer t)

abbrev pub OutcomesAreWork : Type 0
OutcomesAreWork = (outcomes : List Outcome) (tally : Tally) → IsWork (λ s t. FinishesAll s outcomes tally t)

-- nothing is changed that an editor sees, and no call is used up
pub record KeepsHistory (s t : State) : Type 0 where
  pub init : t.init ≡ s.init
  pub face : t.face ≡ s.face
  pub history : t.history ≡ s.history
  pub document : t.document ≡ s.document
  pub trees : t.trees ≡ s.trees
  pub calls_left : t.calls_left ≡ s.calls_left

-- what is done so to a core is seen by no editor
abbrev pub IsUnnoticed : (State → State → Type 0) → Type 0
IsUnnoticed Does = (s t : State) → Does s t → KeepsHistory s t

abbrev pub SettlingIsUnseen : Type 0
SettlingIsUnseen = IsUnnoticed SettlesTo

abbrev pub StoppingIsUnseen : Type 0
StoppingIsUnseen = IsUnnoticed StopsAt

abbrev pub ClaimsAreUnseen : Type 0
ClaimsAreUnseen = (key : CellKey) (answer : Answer) → IsUnnoticed (λ s t. AnswersClaim s key answer t)

abbrev pub NextClaimsAreUnseen : Type 0
NextClaimsAreUnseen = (next : Next) → IsUnnoticed (λ s t. AnswersNext s next t)

abbrev pub FinishesAreUnseen : Type 0
FinishesAreUnseen = (done : Work) (answer : Finished) → IsUnnoticed (λ s t. FinishesTo s done answer t)

abbrev pub GiveBacksAreUnseen : Type 0
GiveBacksAreUnseen = (key : CellKey) (number : ℕ) (answer : Released) → IsUnnoticed (λ s t. GivesBackTo s key number answer t)

abbrev pub BatchesAreUnseen : Type 0
BatchesAreUnseen =
    (limit : ℕ) (claims : List Claim) (answer : Result (Option IdleKind) NoMemory) → IsUnnoticed (λ s t. ClaimsSome s limit claims answer t)

abbrev pub OutcomesAreUnseen : Type 0
OutcomesAreUnseen = (outcomes : List Outcome) (tally : Tally) → IsUnnoticed (λ s t. FinishesAll s outcomes tally t)
