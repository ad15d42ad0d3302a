use Rattle.lay_cli.proofs.CheckEndings.{check_of_fault}
use Rattle.lay_cli.proofs.check_input.check_in.Goals as goal

pub returns-in-Ok : goal.returns-in-Ok
returns-in-Ok c = c.in-Ok.ensures (λ e. absurd cc)

pub returns-in-Err : goal.returns-in-Err
returns-in-Err c = check_of_fault c.args.bytes.now c.in-Err.fault c.refusal_of_check.result (λ named. c.in-Err.ensures (λ e. named cc)) c.refusal_of_check.ensures
