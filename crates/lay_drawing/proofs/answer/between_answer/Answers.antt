use Rattle.lay_drawing.specs.declared.words.Wish.TheVariants.{Between}
use Rattle.lay_drawing.proofs.Answering.{both_answer, bad_answers}
use Rattle.lay_drawing.proofs.answer.between_answer.Goals as goal

pub returns-in-Ok-clause-answers : goal.returns-in-Ok-clause-answers
returns-in-Ok-clause-answers g c =
    let read = c.in-Ok.ensures {u = tt} in
    both_answer (g.S.Source.left c.args.source.now) c.args.versions.0 c.args.versions.1 c.in-Ok.both.before c.in-Ok.both.after c.both_shown.result read.wanted.0 read.wanted.1 read.report.0 read.report.1 c.both_shown.ensures.ok

pub returns-in-Err-BadLine-clause-answers : goal.returns-in-Err-BadLine-clause-answers
returns-in-Err-BadLine-clause-answers g c =
    let cause = rw c.in-Err-BadLine.field-0-is at (c.in-Err-BadLine.ensures {u = tt}).cause in
    bad_answers (g.S.Source.left c.args.source.now) (Between c.args.versions.0 c.args.versions.1) c.in-Err-BadLine.number c.refused.result cause c.refused.ensures.ok
