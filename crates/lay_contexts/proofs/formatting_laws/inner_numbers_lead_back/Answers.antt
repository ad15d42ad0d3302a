use Rattle.lay_contexts.proofs.LeadingBack.{inner_numbers_back}
use Rattle.lay_contexts.proofs.formatting_laws.inner_numbers_lead_back.Goals as goal

pub returns : goal.returns
returns c = inner_numbers_back
