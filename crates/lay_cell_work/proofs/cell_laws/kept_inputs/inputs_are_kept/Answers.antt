use Rattle.lay_cell_work.proofs.CellLawsLemmas.KeptNeeds.{inputs_are_kept_lem}
use Rattle.lay_cell_work.proofs.cell_laws.kept_inputs.inputs_are_kept.Goals as goal

pub returns : goal.returns
returns c =
    inputs_are_kept_lem c.counterparts_are_of_one_node.ensures c.measure_inputs_are_kept.ensures c.size_inputs_are_kept.ensures c.place_inputs_are_kept.ensures
