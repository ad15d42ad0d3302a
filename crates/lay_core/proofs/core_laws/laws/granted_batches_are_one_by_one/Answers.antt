use Rattle.lay_core.proofs.CoreLawsLemmas.GrantedClaims.{granted_batches_are_one_by_one_lem}
use Rattle.lay_core.proofs.core_laws.laws.granted_batches_are_one_by_one.Goals as goal

pub returns : goal.returns
returns c = granted_batches_are_one_by_one_lem c.present_inputs_lead_inward.ensures c.batches_are_one_by_one.ensures
