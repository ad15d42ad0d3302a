use Rattle.std.proofs.Common.{refl}
use Rattle.lay_json.specs.Styled.StyledReading.{plain, with_sheet}
use Rattle.lay_json.proofs.styled.styled_reading.styled_input.Goals as goal

pub returns-in-Some : goal.returns-in-Some
returns-in-Some c = λ named. with_sheet c.in-Some.text c.in-Some.is (c.styled_by.ensures named)

pub returns-in-None : goal.returns-in-None
returns-in-None c = λ named. plain c.in-None.is refl
