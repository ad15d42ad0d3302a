-- What workers that live on hand in. Each outcome comes of a claim, whichever worker that was dealt to.
use Rattle.std.specs.Prelude.{◌≡◌, ◌≤◌, ◌++◌, ℕ, List, Contains, length}
use Rattle.std.specs.List.{All}
use Rattle.lay_cell_work.specs.Claims.{Claim}
use Rattle.lay_cell_work.specs.declared.claim_lists.outcome.Outcome.{Outcome}
use Rattle.lay_cell_work.specs.declared.claim_lists.outcome.Outcome.TheVariants as outcome
use Rattle.lay_cell_work.specs.ClaimLists.Outcomes.{IsOutcomeOf}

-- the work of a claim, right beside its input, or a claim that came back
abbrev pub ComesOf : Outcome → Type 0
ComesOf o = (c : Claim) × IsOutcomeOf c o

-- one of these claims, which came back
abbrev pub IsRefusedOf : List Claim → Outcome → Type 0
IsRefusedOf claims o = (c : Claim) × Contains claims c × (o ≡ outcome.NoMemory c)

-- these outcomes stay as they are, and behind them stands what comes of at most so many claims
pub record AddsWork (most : ℕ) (held outcomes : List Outcome) : Type 0 where
  pub more : List Outcome
  pub stay : outcomes ≡ held ++ more
  pub come : All ComesOf more
  pub few : length more ≤ most
