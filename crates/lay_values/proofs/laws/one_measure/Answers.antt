use Rattle.lay_values.proofs.Measures.{one_measure_lem}
use Rattle.lay_values.proofs.laws.one_measure.Goals as goal

pub returns : goal.returns
returns c = one_measure_lem
