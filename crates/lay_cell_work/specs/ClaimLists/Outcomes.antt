-- What comes of claims. The outcome of a claim is a value under its key and its number, for the very input that it asks for and right
-- beside that, or the same claim again where memory was wanting. A list of claims has one outcome for each, in the same order.
use Rattle.std.specs.Prelude.{ℕ, ◌≡◌, List, length, slice_get, Some}
use Rattle.lay_cells.specs.Rows.{Solved}
use Rattle.lay_shape.specs.declared.cell_key.CellKey.{CellKey}
use Rattle.lay_cell_work.specs.Claims.{Claim}
use Rattle.lay_cell_work.specs.CellInputs.{CellInput}
use Rattle.lay_cell_work.specs.CellLocal.{IsCellLocal}
use Rattle.lay_cell_work.specs.CellValues.{CellValue}
use Rattle.lay_cell_work.specs.declared.claim_lists.outcome.Outcome.{Outcome}
use Rattle.lay_cell_work.specs.declared.claim_lists.outcome.Outcome.TheVariants as outcome

-- a value with what it was worked out of, for a key and under a number
abbrev pub Work : Type 0
Work = Solved CellKey CellInput CellValue

-- the work is that of the claim
pub record IsWorkOf (c : Claim) (d : Work) : Type 0 where
  pub key : d.key ≡ c.key
  pub number : d.number ≡ c.number
  pub input : d.input ≡ c.input
  pub value : IsCellLocal d.input d.value

abbrev pub IsOutcomeOf : Claim → Outcome → Type 0
IsOutcomeOf c (outcome.Done d) = IsWorkOf c d
IsOutcomeOf c (outcome.NoMemory same) = same ≡ c

-- the claim at this place has this outcome
abbrev pub IsOutcomeAt : List Claim → ℕ → Outcome → Type 0
IsOutcomeAt claims place o = (c : Claim) × (slice_get claims place ≡ Some c) × IsOutcomeOf c o

pub record AreOutcomesOf (claims : List Claim) (outcomes : List Outcome) : Type 0 where
  pub count : length outcomes ≡ length claims
  pub each : (place : ℕ) (o : Outcome) → slice_get outcomes place ≡ Some o → IsOutcomeAt claims place o
