use Rattle.std.proofs.Common.{None}
use Rattle.lay_words.specs.declared.form.Form.TheVariants as form
use Rattle.lay_cli.specs.Answers.{Refuses}
use Rattle.lay_cli.proofs.Endings.{ends_weaker, none_refused, scratch_reports}
use Rattle.lay_cli.proofs.from_scratch.scratch.Goals as goal

pub returns-in-Ok-Run-clause-ends : goal.returns-in-Ok-Run-clause-ends
returns-in-Ok-Run-clause-ends g c =
    let left = g.S.Source.left c.args.source.now in
    let spells = rw c.in-Ok-Run.field-0-is at ((c.in-Ok-Run.ensures {u = tt}).input) in
    ends_weaker _ _ _ _ c.laid_out.result _ _ None (scratch_reports left c.in-Ok-Run.run' spells) (none_refused (Refuses form.Scratch left)) c.laid_out.ensures.ends
