use Rattle.std.proofs.Common.{refl, Ok, Err}
use Rattle.lay_json.proofs.styled.styled_check.styled_check.Goals as goal

pub returns-in-Ok : goal.returns-in-Ok
returns-in-Ok c = λ named. record { run = Ok c.in-Ok.styled; styled = c.in-Ok.ensures (λ e. absurd cc); is = refl }

pub returns-in-Err : goal.returns-in-Err
returns-in-Err c = λ named. record { run = Err c.in-Err.fault; styled = c.in-Err.ensures (λ e. named cc); is = refl }
