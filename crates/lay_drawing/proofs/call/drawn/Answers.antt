use Rattle.lay_outside.specs.Outside.{Took, TookFront}
use Rattle.lay_drawing.proofs.Answering.{refused_with, refused_front}
use Rattle.lay_drawing.proofs.call.drawn.Goals as goal

pub returns-in-Ok-Refusal-clause-refused : goal.returns-in-Ok-Refusal-clause-refused
returns-in-Ok-Refusal-clause-refused g c = λ r.
    let written = rw c.as_str-in-Ok-Refusal.ensures at (c.told-in-Ok-Refusal.ensures.told (λ w. cc)) in
    let is = rw c.in-Ok-Refusal.field-0-is at (c.in-Ok-Refusal.ensures {u = tt}).answers in
    refused_with (g.S.Source.left c.args.source.now) c.args.wish _ (Took (g.K.Sink.taken c.args.sink.now) (g.K.Sink.taken c.told-in-Ok-Refusal.new.sink)) is written.1

pub returns-in-Ok-Refusal-clause-front : goal.returns-in-Ok-Refusal-clause-front
returns-in-Ok-Refusal-clause-front g c = λ r.
    let written = rw c.as_str-in-Ok-Refusal.ensures at (c.told-in-Ok-Refusal.ensures.front (λ w. cc) r) in
    let is = rw c.in-Ok-Refusal.field-0-is at (c.in-Ok-Refusal.ensures {u = tt}).answers in
    refused_front (g.S.Source.left c.args.source.now) c.args.wish _ (TookFront (g.K.Sink.taken c.args.sink.now) (g.K.Sink.taken c.told-in-Ok-Refusal.new.sink)) is written
