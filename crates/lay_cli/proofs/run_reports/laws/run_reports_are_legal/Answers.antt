use Rattle.lay_cli.proofs.RunReportsLemmas.Runs.{run_reports_are_legal}
use Rattle.lay_cli.proofs.run_reports.laws.run_reports_are_legal.Goals as goal

pub returns : goal.returns
returns c = run_reports_are_legal c.last_tree.ensures
