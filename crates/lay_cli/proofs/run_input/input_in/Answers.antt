use Rattle.lay_cli.proofs.Answering.{input_of_fault}
use Rattle.lay_cli.proofs.run_input.input_in.Goals as goal

pub returns-in-Ok : goal.returns-in-Ok
returns-in-Ok c = c.in-Ok.ensures (λ e. absurd cc)

pub returns-in-Err : goal.returns-in-Err
returns-in-Err c = input_of_fault c.args.bytes.now c.in-Err.fault c.refusal_of.result (λ named. c.in-Err.ensures (λ e. named cc)) c.refusal_of.ensures
