-- What calls on the cells of a core come to. Nothing else of it changes.
use Rattle.std.specs.Prelude.{ℕ, ◌⊎◌, ◌+◌, ◌≤◌, ◌^◌, List, Option, Result}
use Rattle.lay_units.specs.declared.memory.NoMemory.{NoMemory}
use Rattle.lay_cells.specs.declared.answers.Finished.{Finished}
use Rattle.lay_cells.specs.declared.answers.Released.{Released}
use Rattle.lay_shape.specs.declared.cell_key.CellKey.{CellKey}
use Rattle.lay_cell_work.specs.Claims.{Claim}
use Rattle.lay_cell_work.specs.declared.claim_lists.outcome.Outcome.{Outcome}
use Rattle.lay_document_cells.specs.Batches.{CellsClaimSome}
use Rattle.lay_document_cells.specs.Claims.{CellsAnswerClaim, CellsAnswerNext}
use Rattle.lay_document_cells.specs.Outcomes.{CellsFinishAll, Tally}
use Rattle.lay_document_cells.specs.Steps.{CellsFinishTo, CellsGiveBackTo}
use Rattle.lay_cell_work.specs.ClaimLists.Outcomes.{Work}
use Rattle.lay_document_cells.specs.declared.answers.Answer.{Answer}
use Rattle.lay_document_cells.specs.declared.answers.Next.{Next}
use Rattle.lay_document_cells.specs.declared.idle.IdleKind.{IdleKind}
use Rattle.lay_core.specs.State.{State}
use Rattle.lay_core.specs.Work.{ChangesCells}

-- a claim of a key
abbrev pub AnswersClaim : State → CellKey → Answer → State → Type 0
AnswersClaim s key answer t = ChangesCells (λ d e. CellsAnswerClaim d key answer e) s t

-- a claim of the next cell
abbrev pub AnswersNext : State → Next → State → Type 0
AnswersNext s next t = ChangesCells (λ d e. CellsAnswerNext d next e) s t

-- a batch of at most so many claims: these, in order
abbrev pub ClaimsSome : State → (limit : ℕ) → List Claim → Result (Option IdleKind) NoMemory → State → Type 0
ClaimsSome s limit claims answer t = ChangesCells (λ d e. CellsClaimSome d limit claims answer e) s t

-- finished work
abbrev pub FinishesTo : State → Work → Finished → State → Type 0
FinishesTo s done answer t = ChangesCells (λ d e. CellsFinishTo d done answer e) s t

-- a claim that comes back without a value
abbrev pub GivesBackTo : State → CellKey → (number : ℕ) → Released → State → Type 0
GivesBackTo s key number answer t = ChangesCells (λ d e. CellsGiveBackTo d key number answer e) s t

-- what comes of a batch: each value is finished, and each other claim comes back
abbrev pub FinishesAll : State → List Outcome → Tally → State → Type 0
FinishesAll s outcomes tally t = ChangesCells (λ d e. CellsFinishAll d outcomes tally e) s t

-- claims draw no number where 2^63 are drawn, and 2^20 at most
abbrev pub DrawsFew : State → State → Type 0
DrawsFew s t = (t.cells.draws ≤ s.cells.draws) ⊎ (t.cells.draws ≤ 2 ^ 63 + 2 ^ 20)
