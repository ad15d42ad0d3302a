use Rattle.lay_cell_work.proofs.CellLawsLemmas.SameInputs.{measure_inputs_are_kept_lem}
use Rattle.lay_cell_work.proofs.cell_laws.laws.measure_inputs_are_kept.Goals as goal

pub returns : goal.returns
returns c = measure_inputs_are_kept_lem c.one_home.ensures c.measured_where_shrunk.ensures
