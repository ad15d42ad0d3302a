use Rattle.lay_json.proofs.StyledLemmas.OneStyledReading.{one_styled_reading_lem}
use Rattle.lay_json.proofs.styled.laws.one_styled_reading.Goals as goal

pub returns : goal.returns
returns c = one_styled_reading_lem
