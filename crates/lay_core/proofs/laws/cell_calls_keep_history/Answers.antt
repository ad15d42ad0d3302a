use Rattle.lay_core.proofs.ClaimSteps.{batches_unseen, claims_unseen, finishes_unseen, give_backs_unseen, next_claims_unseen, outcomes_unseen, settling_unseen, stopping_unseen}
use Rattle.lay_core.proofs.laws.cell_calls_keep_history.Goals as goal

pub returns-clause-settling : goal.returns-clause-settling
returns-clause-settling c = settling_unseen

pub returns-clause-stopping : goal.returns-clause-stopping
returns-clause-stopping c = stopping_unseen

pub returns-clause-claims : goal.returns-clause-claims
returns-clause-claims c = claims_unseen

pub returns-clause-next_claims : goal.returns-clause-next_claims
returns-clause-next_claims c = next_claims_unseen

pub returns-clause-finishes : goal.returns-clause-finishes
returns-clause-finishes c = finishes_unseen

pub returns-clause-give_backs : goal.returns-clause-give_backs
returns-clause-give_backs c = give_backs_unseen

pub returns-clause-batches : goal.returns-clause-batches
returns-clause-batches c = batches_unseen

pub returns-clause-outcomes : goal.returns-clause-outcomes
returns-clause-outcomes c = outcomes_unseen
