-- What a turn of those who lay out cells comes to: claims that the core hands out, and outcomes that are handed in. Nobody sees the states
-- of the core in such a turn, so all that can be said is that there are some, of a core of this document and this face.
use Rattle.std.specs.Prelude.{ℕ, ◌≡◌, [], Some, None, Ok, List, IfOk}
use Rattle.lay_cell_work.specs.declared.claim_lists.outcome.Outcome.{Outcome}
use Rattle.lay_core.specs.Claims.{ClaimsSome, FinishesAll}
use Rattle.lay_core.specs.State.{IsCore, State}
use Rattle.lay_document_cells.specs.Outcomes.{Tally}
use Rattle.lay_board.specs.Cores.{origin_of}
use Rattle.lay_board.specs.declared.batches.Batch.{Batch}
use Rattle.lay_board.specs.declared.batches.Batch.TheVariants as batch
use Rattle.lay_board.specs.declared.batches.Exchange.{Exchange}
use Rattle.lay_board.specs.declared.views.Origin.{Origin}

-- a core that was started with these
abbrev pub IsCoreFrom : Origin → State → Type 0
IsCoreFrom origin s = IsCore s × (origin_of s ≡ origin)

-- the core grants these claims, at most so many, or says why it grants none
abbrev pub GrantsBatch : State → (limit : ℕ) → Batch → State → Type 0
GrantsBatch s limit (batch.Claims list) t = ClaimsSome s limit list.claims (Ok None) t
GrantsBatch s limit (batch.Idle kind) t = ClaimsSome s limit [] (Ok (Some kind)) t

pub record GivesBatch (origin : Origin) (limit : ℕ) (given : Batch) : Type 0 where
  pub before : State
  pub after : State
  pub core : IsCoreFrom origin before
  pub grants : GrantsBatch before limit given after

-- each of these outcomes is handed in, in order, and the tally counts the answers
pub record FinishesBatch (origin : Origin) (outcomes : List Outcome) (tally : Tally) : Type 0 where
  pub before : State
  pub after : State
  pub core : IsCoreFrom origin before
  pub finishes : FinishesAll before outcomes tally after

-- each of these outcomes is handed in, in order, and right behind that the core grants claims, or says why it grants none
pub record Exchanges (origin : Origin) (limit : ℕ) (outcomes : List Outcome) (e : Exchange) : Type 0 where
  pub before : State
  pub between : State
  pub core : IsCoreFrom origin before
  pub finishes : FinishesAll before outcomes e.tally between
  pub grants : IfOk e.batch (λ b. (after : State) × GrantsBatch between limit b after)
