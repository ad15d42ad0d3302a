use Rattle.lay_core.proofs.CoreLawsLemmas.WholeLayouts.{layouts_give_inputs_lem}
use Rattle.lay_core.proofs.core_laws.laws.layouts_give_inputs.Goals as goal

pub returns : goal.returns
returns c = layouts_give_inputs_lem c.anonymous_boxes_are_in_flow.ensures
