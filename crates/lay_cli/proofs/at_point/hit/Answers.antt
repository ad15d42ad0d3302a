use Rattle.std.proofs.Common.{None}
use Rattle.lay_words.specs.declared.form.Form.TheVariants as form
use Rattle.lay_cli.specs.Answers.{Refuses}
use Rattle.lay_cli.proofs.Endings.{ends_weaker, none_refused}
use Rattle.lay_cli.proofs.HitEndings.{hit_reports}
use Rattle.lay_cli.proofs.at_point.hit.Goals as goal

pub returns-in-Ok-Run-clause-ends : goal.returns-in-Ok-Run-clause-ends
returns-in-Ok-Run-clause-ends g c =
    let left = g.S.Source.left c.args.source.now in
    let spells = rw c.in-Ok-Run.field-0-is at ((c.in-Ok-Run.ensures {u = tt}).input) in
    ends_weaker _ _ _ _ c.seen.result _ _ None (hit_reports c.args.x c.args.y c.point_at.result left c.in-Ok-Run.run' c.point_at.ensures spells)
    (none_refused (Refuses (form.Hit c.args.x c.args.y) left)) c.seen.ensures.ends
