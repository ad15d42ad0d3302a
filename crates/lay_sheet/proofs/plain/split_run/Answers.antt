use Rattle.lay_sheet.proofs.Runs.{plain-run}
use Rattle.lay_sheet.proofs.plain.split_run.Goals as goal

pub returns-clause-seen : goal.returns-clause-seen
returns-clause-seen c =
    rw (c.split_at.ensures.front, c.split_at.ensures.back) (plain-run c.args.text.now c.min.result c.run_length.result c.run_length.ensures.bound c.run_length.ensures.seen)
