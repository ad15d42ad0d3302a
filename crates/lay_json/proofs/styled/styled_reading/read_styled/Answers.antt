use Rattle.std.proofs.Common.{refl}
use Rattle.lay_json.specs.Styled.StyledReading.{read, refused}
use Rattle.lay_json.proofs.styled.styled_reading.read_styled.Goals as goal

pub returns-in-Ok : goal.returns-in-Ok
returns-in-Ok c = λ named. read _ _ (c.in-Ok.ensures (λ e. absurd cc)) (c.styled_input.ensures named)

pub returns-in-Err : goal.returns-in-Err
returns-in-Err c = λ named. refused c.in-Err.fault (c.in-Err.ensures (λ e. named cc)) refl
