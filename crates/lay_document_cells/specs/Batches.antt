-- Claims by the batch: the next cell is claimed again and again, until there are as many claims as are asked for or one isn't granted.
use Rattle.std.specs.Prelude.{ℕ, ⊤, ◌≡◌, ◌<◌, List, [], ◌∷◌, ◌++◌, length, Option, None, Some, Result, Ok, IsErr}
use Rattle.lay_units.specs.declared.memory.NoMemory.{NoMemory}
use Rattle.lay_cell_work.specs.Claims.{Claim}
use Rattle.lay_document_cells.specs.Claims.{CellsAnswerNext}
use Rattle.lay_document_cells.specs.State.{State}
use Rattle.lay_document_cells.specs.declared.answers.Next.{Next}
use Rattle.lay_document_cells.specs.declared.answers.Next.TheVariants as next
use Rattle.lay_document_cells.specs.declared.idle.IdleKind.{IdleKind}
use Rattle.lay_document_cells.specs.declared.idle.IdleKind.TheVariants as idle

-- claims of the next cell one after another, which are all granted: these, in order
pub data Grants (s : State) : List Claim → State → Type 0 where
  start : Grants s [] s
  more : (claims : List Claim) (claim : Claim) (mid t : State) → Grants s claims mid → CellsAnswerNext mid (next.Granted claim) t
      → Grants s (claims ++ claim ∷ []) t

-- an answer that hands out no claim
abbrev pub IsNoGrant : Next → Type 0
IsNoGrant (next.Granted claim) = ⊥
IsNoGrant next.Settled = ⊤
IsNoGrant (next.Busy number) = ⊤
IsNoGrant next.Spent = ⊤
IsNoGrant next.NoMemory = ⊤

-- a claim of the next cell isn't granted
pub record GrantsNone (s : State) (answer : Next) (t : State) : Type 0 where
  pub answers : CellsAnswerNext s answer t
  pub none : IsNoGrant answer

-- how a batch is answered where the first answer is this
abbrev pub IsBatchAnswer : Next → Result (Option IdleKind) NoMemory → Type 0
IsBatchAnswer (next.Granted claim) result = result ≡ Ok None
IsBatchAnswer next.Settled result = result ≡ Ok (Some idle.Settled)
IsBatchAnswer (next.Busy number) result = result ≡ Ok (Some (idle.Busy number))
IsBatchAnswer next.Spent result = result ≡ Ok (Some idle.Spent)
IsBatchAnswer next.NoMemory result = IsErr result

-- a batch of at most so many claims
pub data CellsClaimSome (s : State) (limit : ℕ) : List Claim → Result (Option IdleKind) NoMemory → State → Type 0 where
  full : (claims : List Claim) (t : State) → Grants s claims t → length claims ≡ limit → CellsClaimSome s limit claims (Ok None) t
  fewer : (claims : List Claim) (answer : Next) (mid t : State) → Grants s claims mid → 0 < length claims → length claims < limit
      → GrantsNone mid answer t → CellsClaimSome s limit claims (Ok None) t
  none : (answer : Next) (result : Result (Option IdleKind) NoMemory) (t : State) → GrantsNone s answer t → IsBatchAnswer answer result
      → CellsClaimSome s limit [] result t
