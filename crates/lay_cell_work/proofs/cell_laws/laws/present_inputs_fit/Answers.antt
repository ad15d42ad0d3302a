use Rattle.lay_cell_work.proofs.CellLawsLemmas.FittingInputs.{present_inputs_fit_lem}
use Rattle.lay_cell_work.proofs.cell_laws.laws.present_inputs_fit.Goals as goal

pub returns : goal.returns
returns c = present_inputs_fit_lem
