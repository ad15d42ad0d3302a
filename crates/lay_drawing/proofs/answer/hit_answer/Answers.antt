use Rattle.lay_drawing.proofs.Answering.{hit_answers, bad_answers}
use Rattle.lay_drawing.specs.declared.words.Wish.TheVariants.{Hit}
use Rattle.lay_drawing.proofs.answer.hit_answer.Goals as goal

pub returns-in-Ok-clause-answers : goal.returns-in-Ok-clause-answers
returns-in-Ok-clause-answers g c =
    let read = c.in-Ok.ensures {u = tt} in
    hit_answers (g.S.Source.left c.args.source.now) c.args.name c.in-Ok.reading c.hit_shown.result read.wanted read.report c.hit_shown.ensures.ok

pub returns-in-Err-BadLine-clause-answers : goal.returns-in-Err-BadLine-clause-answers
returns-in-Err-BadLine-clause-answers g c =
    let cause = rw c.in-Err-BadLine.field-0-is at (c.in-Err-BadLine.ensures {u = tt}).cause in
    let told = rw c.in-Err-BadLine.field-0-is at c.refused.ensures.ok in
    bad_answers (g.S.Source.left c.args.source.now) (Hit c.args.name) c.in-Err-BadLine.number c.refused.result cause told
