use Rattle.lay_core.proofs.CellSteps.{batches, claims, finishes, give_backs, latest, next_claims, outcomes, publishing, refreshing, settling, stopping, sync}
use Rattle.lay_core.proofs.laws.calls_work.Goals as goal

pub returns-clause-settling : goal.returns-clause-settling
returns-clause-settling c = settling

pub returns-clause-stopping : goal.returns-clause-stopping
returns-clause-stopping c = stopping

pub returns-clause-publishing : goal.returns-clause-publishing
returns-clause-publishing c = publishing

pub returns-clause-refreshing : goal.returns-clause-refreshing
returns-clause-refreshing c = refreshing

pub returns-clause-latest : goal.returns-clause-latest
returns-clause-latest c = latest

pub returns-clause-sync : goal.returns-clause-sync
returns-clause-sync c = sync

pub returns-clause-claims : goal.returns-clause-claims
returns-clause-claims c = claims c.claims_work.ensures.claims

pub returns-clause-next_claims : goal.returns-clause-next_claims
returns-clause-next_claims c = next_claims c.claims_work.ensures.next_claims

pub returns-clause-finishes : goal.returns-clause-finishes
returns-clause-finishes c = finishes

pub returns-clause-give_backs : goal.returns-clause-give_backs
returns-clause-give_backs c = give_backs

pub returns-clause-batches : goal.returns-clause-batches
returns-clause-batches c = batches c.claims_work.ensures.batches

pub returns-clause-outcomes : goal.returns-clause-outcomes
returns-clause-outcomes c = outcomes c.claims_work.ensures.outcomes
