use Rattle.std.proofs.Common.{rules}
use Rattle.lay_cli.proofs.DrivenRuns.{driven_by, summary_by}
use Rattle.lay_cli.proofs.drive.summarized.Goals as goal

pub returns : goal.returns
returns g c =
    let by = c.in_ok-core.ensures {u = tt} in
    summary_by c.summaries_come_of_numbers.ensures _ _ _ _ c.requires.size
    (driven_by _ _ _ (c.in_ok-run.ensures {u = tt}) by.init by.face (search rules) (search rules) by.scripts by.whole) (c.in_ok-text.ensures {u = tt})
