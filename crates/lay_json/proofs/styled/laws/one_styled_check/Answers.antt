use Rattle.lay_json.proofs.StyledLemmas.OneStyledCheck.{one_styled_check_lem}
use Rattle.lay_json.proofs.styled.laws.one_styled_check.Goals as goal

pub returns : goal.returns
returns c = one_styled_check_lem
