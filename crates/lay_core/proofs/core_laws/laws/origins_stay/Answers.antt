use Rattle.lay_core.proofs.CoreLawsLemmas.ReachedTurns.{origins_stay_lem}
use Rattle.lay_core.proofs.core_laws.laws.origins_stay.Goals as goal

pub returns : goal.returns
returns c = origins_stay_lem c.claims_work.ensures.claims c.claims_work.ensures.next_claims c.claims_work.ensures.batches c.claims_work.ensures.outcomes
