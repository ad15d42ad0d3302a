use Rattle.lay_json.proofs.OneCheck.{one_check_lem}
use Rattle.lay_json.proofs.laws.one_check.Goals as goal

pub returns : goal.returns
returns c = one_check_lem
