use Rattle.lay_core.proofs.CoreLawsLemmas.GrantedClaims.{granted_claims_have_one_work_lem}
use Rattle.lay_core.proofs.core_laws.laws.granted_claims_have_one_work.Goals as goal

pub returns : goal.returns
returns c = granted_claims_have_one_work_lem c.present_inputs_lead_inward.ensures c.one_work.ensures
