use Rattle.lay_cascade.proofs.StyledLemmas.OneStyle.{one_styled_lem}
use Rattle.lay_cascade.proofs.styled.laws.one_styled.Goals as goal

pub returns : goal.returns
returns c = one_styled_lem
