use Rattle.lay_core.proofs.CoreLawsLemmas.GivenOnce.{one_given_input_lem}
use Rattle.lay_core.proofs.core_laws.laws.one_given_input.Goals as goal

pub returns : goal.returns
returns c = one_given_input_lem c.one_style_column.ensures c.one_context_list.ensures c.one_formatting_context_list.ensures c.inputs_are_kept.ensures c.one_cell_local.ensures c.present_inputs_lead_inward.ensures
