-- A claim has one work where what its cell is given goes one way, as it does for each cell of a document (law
-- `present_inputs_lead_inward` of lay_cell_work). So what a batch has done for a claim is what the claim comes to by itself, whatever
-- other claims are in the batch and whoever worked on it.
use Rattle.std.specs.Prelude.{ℕ, ◌≡◌, List, slice_get, Some}
use Rattle.lay_cell_work.specs.CellInputFits.{LeadsInward}
use Rattle.lay_cell_work.specs.Claims.{Claim}
use Rattle.lay_cell_work.specs.ClaimLists.Outcomes.{AreOutcomesOf, IsWorkOf, Work}
use Rattle.lay_cell_work.specs.declared.claim_lists.outcome.Outcome.{Outcome}
use Rattle.lay_cell_work.specs.declared.claim_lists.outcome.Outcome.TheVariants.{Done}

abbrev pub OneWork : Type 0
OneWork = (c : Claim) (d e : Work) → LeadsInward c.input → IsWorkOf c d → IsWorkOf c e → d ≡ e

-- the claim at this place has come to this work in the batch, and to that one by itself
abbrev pub BatchesAreOneByOne : Type 0
BatchesAreOneByOne =
    (claims : List Claim) (outcomes : List Outcome) (place : ℕ) (c : Claim) (d e : Work) → AreOutcomesOf claims outcomes
    → slice_get claims place ≡ Some c → LeadsInward c.input → slice_get outcomes place ≡ Some (Done d) → IsWorkOf c e → d ≡ e
