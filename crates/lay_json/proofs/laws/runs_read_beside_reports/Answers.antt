use Rattle.lay_json.proofs.OneCheck.{runs_read_beside_reports_lem}
use Rattle.lay_json.proofs.laws.runs_read_beside_reports.Goals as goal

pub returns : goal.returns
returns c = runs_read_beside_reports_lem
