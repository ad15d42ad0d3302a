use Rattle.lay_json.proofs.StyledLemmas.OneStyledCheck.{runs_are_styled_beside_reports_lem}
use Rattle.lay_json.proofs.styled.laws.runs_are_styled_beside_reports.Goals as goal

pub returns : goal.returns
returns c = runs_are_styled_beside_reports_lem
