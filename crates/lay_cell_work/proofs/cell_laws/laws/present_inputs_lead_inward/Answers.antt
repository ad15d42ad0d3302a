use Rattle.lay_cell_work.proofs.CellLawsLemmas.LeadingInward.{present_inputs_lead_inward_lem}
use Rattle.lay_cell_work.proofs.cell_laws.laws.present_inputs_lead_inward.Goals as goal

pub returns : goal.returns
returns c = present_inputs_lead_inward_lem
