use Rattle.lay_words.specs.declared.form.Form.TheVariants as form
use Rattle.lay_cli.specs.Answers.{Refuses, Reports}
use Rattle.lay_cli.proofs.Endings.{ends_refused, ends_weaker, none_refused, run_reports}
use Rattle.lay_cli.proofs.drive.run.Goals as goal

pub returns-in-Ok-Run-clause-ends : goal.returns-in-Ok-Run-clause-ends
returns-in-Ok-Run-clause-ends g c =
    let workers = c.args.workers in
    let left = g.S.Source.left c.args.source.now in
    let spells = rw c.in-Ok-Run.field-0-is at ((c.in-Ok-Run.ensures {u = tt}).input) in
    ends_weaker _ _ _ _ c.driven.result _ _ c.driven.new.kept (run_reports workers left c.in-Ok-Run.run' spells) (none_refused (Refuses (form.Run workers) left)) c.driven.ensures.ends

pub returns-in-Ok-Refusal-clause-ends : goal.returns-in-Ok-Refusal-clause-ends
returns-in-Ok-Refusal-clause-ends g c =
    let workers = c.args.workers in
    let left = g.S.Source.left c.args.source.now in
    let input = rw c.in-Ok-Refusal.field-0-is at ((c.in-Ok-Refusal.ensures {u = tt}).input) in
    let told = rw c.as_str.ensures at c.told.ensures.told in
    let front = rw c.as_str.ensures at (c.told.ensures.front (λ w. cc)) in
    rw c.requires.kept (ends_refused (Reports (form.Run workers) left) (Refuses (form.Run workers) left) _ _ c.in-Ok-Refusal.line c.told.result input told (c.told.ensures.failed (λ w. cc)) front c.told.ensures.either)
