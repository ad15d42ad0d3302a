use Rattle.lay_document_cells.proofs.ClaimsWorking.{batch_works, claim_works, next_works, outcomes_work}
use Rattle.lay_document_cells.proofs.laws.claims_work.Goals as goal

pub returns-clause-claims : goal.returns-clause-claims
returns-clause-claims c = claim_works

pub returns-clause-next_claims : goal.returns-clause-next_claims
returns-clause-next_claims c = next_works

pub returns-clause-batches : goal.returns-clause-batches
returns-clause-batches c = batch_works

pub returns-clause-outcomes : goal.returns-clause-outcomes
returns-clause-outcomes c = outcomes_work
