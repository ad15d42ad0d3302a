use Rattle.lay_cli.specs.Answers.{IsRunOrRefusal}
use Rattle.lay_cli.proofs.Answering.{drained_out, over_out, too_many}
use Rattle.lay_cli.proofs.Streams.{all_gives}
use Rattle.lay_cli.proofs.run_input.run_input.Goals as goal

pub returns-in_ok-fault_line-in-Err-TooLong-clause-input :
    goal.returns-in_ok-fault_line-in-Err-TooLong-clause-input
returns-in_ok-fault_line-in-Err-TooLong-clause-input g c =
    let over = rw c.in-Err-TooLong.field-0-is at (c.in-Err-TooLong.ensures {u = tt}).cause in
    too_many (g.S.Source.left c.args.source.now) c.in_ok-fault_line-in-Err-TooLong.field-0 over (c.in_ok-fault_line-in-Err-TooLong.ensures {u = tt})

pub returns-in_ok-input_in-in-Ok-clause-input : goal.returns-in_ok-input_in-in-Ok-clause-input
returns-in_ok-input_in-in-Ok-clause-input g c =
    let is = rw c.deref.ensures.value at (c.in_ok-input_in-in-Ok.ensures {u = tt}) in
    all_gives (g.S.Source.left c.args.source.now) c.in-Ok.bytes.items (λ bytes. IsRunOrRefusal bytes c.in_ok-input_in-in-Ok.field-0) (c.in-Ok.ensures {u = tt}).all is

pub returns-in_ok-fault_line-in-Err-TooLong-clause-read_out :
    goal.returns-in_ok-fault_line-in-Err-TooLong-clause-read_out
returns-in_ok-fault_line-in-Err-TooLong-clause-read_out g c =
    let over = rw c.in-Err-TooLong.field-0-is at (c.in-Err-TooLong.ensures {u = tt}).cause in
    over_out (g.S.Source.left c.args.source.now) _ over

pub returns-in_ok-input_in-in-Ok-clause-read_out : goal.returns-in_ok-input_in-in-Ok-clause-read_out
returns-in_ok-input_in-in-Ok-clause-read_out g c = drained_out (g.S.Source.left c.args.source.now) _ (c.in-Ok.ensures {u = tt}).drained
