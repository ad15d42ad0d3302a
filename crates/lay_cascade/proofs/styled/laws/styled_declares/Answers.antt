use Rattle.lay_cascade.proofs.StyledLemmas.Declaring.{styled_declares_lem}
use Rattle.lay_cascade.proofs.styled.laws.styled_declares.Goals as goal

pub returns : goal.returns
returns c = styled_declares_lem
