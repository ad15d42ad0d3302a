use Rattle.lay_cascade.proofs.StyledLemmas.SpecificityNumbers.{weights_are_numbers_lem}
use Rattle.lay_cascade.proofs.styled.laws.weights_are_numbers.Goals as goal

pub returns : goal.returns
returns c = weights_are_numbers_lem
