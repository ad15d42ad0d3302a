use Rattle.std.proofs.Common.{None}
use Rattle.lay_words.specs.declared.form.Form.TheVariants as form
use Rattle.lay_cli.specs.Answers.{Refuses}
use Rattle.lay_cli.proofs.Endings.{ends_weaker, none_refused}
use Rattle.lay_cli.proofs.CheckEndings.{check_reports}
use Rattle.lay_cli.proofs.checking.check.Goals as goal

pub returns-in-Ok-Asked-clause-ends : goal.returns-in-Ok-Asked-clause-ends
returns-in-Ok-Asked-clause-ends g c =
    let left = g.S.Source.left c.args.source.now in
    let spells = rw c.in-Ok-Asked.field-0-is at ((c.in-Ok-Asked.ensures {u = tt}).input) in
    ends_weaker _ _ _ _ c.judged.result _ _ None (check_reports left c.in-Ok-Asked.asked spells) (none_refused (Refuses form.Check left)) c.judged.ensures.ends
