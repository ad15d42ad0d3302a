use Rattle.std.proofs.Common.{refl}
use Rattle.lay_json.specs.Styled.StyledChecks.{check_read, check_refused}
use Rattle.lay_json.proofs.styled.styled_check.read_styled_check.Goals as goal

pub returns-in-Ok : goal.returns-in-Ok
returns-in-Ok c = λ named. check_read c.in-Ok.check (c.in-Ok.ensures (λ e. absurd cc)) (c.styled_check.ensures named)

pub returns-in-Err : goal.returns-in-Err
returns-in-Err c = λ named. check_refused c.in-Err.fault (c.in-Err.ensures (λ e. named cc)) refl
