use Rattle.lay_json.proofs.OneInput.{one_input_lem}
use Rattle.lay_json.proofs.laws.one_input.Goals as goal

pub returns : goal.returns
returns c = one_input_lem
