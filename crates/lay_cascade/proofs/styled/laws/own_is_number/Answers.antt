use Rattle.lay_cascade.proofs.StyledLemmas.SpecificityNumbers.{own_is_number_lem}
use Rattle.lay_cascade.proofs.styled.laws.own_is_number.Goals as goal

pub returns : goal.returns
returns c = own_is_number_lem
