-- What claims of the cells of a document come to.
use Rattle.std.specs.Prelude.{ℕ, ◌≡◌, ◌⊎◌, ◌+◌, ◌≤◌, ◌<◌, ◌^◌, true, List, slice_get, Some}
use Rattle.lay_cells.specs.Looks.{AreClean, IsAt, IsClean, IsGone, Looks}
use Rattle.lay_cells.specs.Places.{IsClaimed}
use Rattle.lay_cells.specs.Reads.{AllClean}
use Rattle.lay_cells.specs.Shapes.{IsIn}
use Rattle.lay_cells.specs.declared.answers.Claimed.{Claimed}
use Rattle.lay_cells.specs.declared.answers.Claimed.TheVariants as claimed
use Rattle.lay_cells.specs.declared.answers.Look.TheVariants as look
use Rattle.lay_shape.specs.declared.cell_key.CellKey.{CellKey}
use Rattle.lay_cell_work.specs.CellInputs.{CellInput}
use Rattle.lay_cell_work.specs.Claims.{Claim}
use Rattle.lay_cell_work.specs.CellLaws.SoundCells.{CellRow}
use Rattle.lay_document_cells.specs.State.{State}
use Rattle.lay_document_cells.specs.Steps.{ClaimsTo}
use Rattle.lay_document_cells.specs.declared.answers.Answer.{Answer}
use Rattle.lay_document_cells.specs.declared.answers.Answer.TheVariants as answer
use Rattle.lay_document_cells.specs.declared.answers.Next.{Next}
use Rattle.lay_document_cells.specs.declared.answers.Next.TheVariants as next

-- so many numbers are kept for edits and for settling
abbrev pub IsSpent : State → Type 0
IsSpent s = 2 ^ 63 ≤ s.cells.draws

abbrev pub IsOpenToClaims : State → Type 0
IsOpenToClaims s = s.cells.draws < 2 ^ 63

-- this claim of the key was granted, for what the cell is given now
pub record GrantsClaim (s : State) (key : CellKey) (claim : Claim) (t : State) : Type 0 where
  pub key_is : claim.key ≡ key
  pub claims : ClaimsTo s key claim.input (claimed.Granted claim.number) t

-- and this answer, which hands out none, came of a claim for what it is given now
pub record ClaimsFor (s : State) (key : CellKey) (answer : Claimed) (t : State) : Type 0 where
  pub input : CellInput
  pub claims : ClaimsTo s key input answer t

-- a claim of a key
abbrev pub CellsAnswerClaim : State → CellKey → Answer → State → Type 0
CellsAnswerClaim s key answer.Gone t = IsGone s.cells.rows key × (t ≡ s)
CellsAnswerClaim s key answer.Clean t = IsClean s.cells.rows key × (t ≡ s)
CellsAnswerClaim s key (answer.Waiting need) t = Looks s.cells.rows key (look.Waiting need) × (t ≡ s)
CellsAnswerClaim s key answer.Spent t = Looks s.cells.rows key look.Ready × IsSpent s × (t ≡ s)
CellsAnswerClaim s key answer.NoMemory t = Looks s.cells.rows key look.Ready × IsOpenToClaims s × (t ≡ s)
CellsAnswerClaim s key (answer.Taken number) t = IsOpenToClaims s × ClaimsFor s key (claimed.Taken number) t
CellsAnswerClaim s key answer.Reused t = IsOpenToClaims s × ClaimsFor s key claimed.Reused t
CellsAnswerClaim s key (answer.Granted claim) t = IsOpenToClaims s × GrantsClaim s key claim t

-- the row is dirty, and all that its cell depends on is clean
abbrev pub IsReady : List CellRow → CellRow → Type 0
IsReady rows r = (r.dirty ≡ true) × AreClean rows r.needs

-- each cell before the place that is ready is claimed already, for what it is given now
abbrev pub AreClaimed : List CellRow → ℕ → Type 0
AreClaimed rows place = (j : ℕ) (r : CellRow) → j < place → slice_get rows j ≡ Some r → IsReady rows r → (number : ℕ) × IsClaimed r number

-- the same of all, and there is one that is ready; this is the least number of their claims
pub record IsBusy (rows : List CellRow) (number : ℕ) : Type 0 where
  pub all : (r : CellRow) → IsIn rows r → IsReady rows r → (n : ℕ) × IsClaimed r n
  pub one : (r : CellRow) × IsIn rows r × IsReady rows r × IsClaimed r number
  pub least : (r : CellRow) (n : ℕ) → IsIn rows r → IsReady rows r → IsClaimed r n → number ≤ n

-- claims of cells one after another of which none is granted
pub data Passes (s : State) : State → Type 0 where
  none : Passes s s
  reused : (key : CellKey) (mid t : State) → Passes s mid → ClaimsFor mid key claimed.Reused t → Passes s t
  taken : (key : CellKey) (number : ℕ) (mid t : State) → Passes s mid → ClaimsFor mid key (claimed.Taken number) t → Passes s t

abbrev pub HasDirtyCell : List CellRow → Type 0
HasDirtyCell rows = (r : CellRow) × IsIn rows r × (r.dirty ≡ true)

-- a claim of the cell at the place is the first that is granted
pub record GrantsFirst (s : State) (claim : Claim) (t : State) : Type 0 where
  pub before : State
  pub passes : Passes s before
  pub place : ℕ
  pub row : CellRow
  pub at : IsAt before.cells.rows claim.key place row
  pub passed : AreClaimed before.cells.rows place
  pub grants : GrantsClaim before claim.key claim t

-- a claim of the next cell that there is to claim: the cells are gone through in order
abbrev pub CellsAnswerNext : State → Next → State → Type 0
CellsAnswerNext s next.Settled t = ((t ≡ s) ⊎ (IsOpenToClaims s × Passes s t)) × AllClean t.cells.rows
CellsAnswerNext s next.Spent t = HasDirtyCell s.cells.rows × IsSpent s × (t ≡ s)
CellsAnswerNext s (next.Busy number) t = IsOpenToClaims s × Passes s t × IsBusy t.cells.rows number
CellsAnswerNext s (next.Granted claim) t = IsOpenToClaims s × GrantsFirst s claim t
CellsAnswerNext s next.NoMemory t = IsOpenToClaims s × Passes s t × HasDirtyCell t.cells.rows

-- numbers are drawn where few enough are, and not more of them than there may be cells
abbrev pub CellsDrawFew : State → State → Type 0
CellsDrawFew s t = (t.cells.draws ≡ s.cells.draws) ⊎ ((s.cells.draws < 2 ^ 63) × (t.cells.draws ≤ s.cells.draws + 2 ^ 18))
