use Rattle.lay_cell_work.proofs.CellLawsLemmas.KeptInputs.{size_inputs_are_kept_lem}
use Rattle.lay_cell_work.proofs.cell_laws.laws.size_inputs_are_kept.Goals as goal

pub returns : goal.returns
returns c =
    size_inputs_are_kept_lem c.one_home.ensures c.measured_where_shrunk.ensures c.one_nearest_holder.ensures c.settings_come_of_ways.ensures c.settings_are_values.ensures
