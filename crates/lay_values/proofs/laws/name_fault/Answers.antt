use Rattle.lay_values.proofs.NameFaults.{unknown_name, known_name}
use Rattle.lay_values.proofs.laws.name_fault.Goals as goal

pub returns : goal.returns
returns c = (unknown_name, known_name)
