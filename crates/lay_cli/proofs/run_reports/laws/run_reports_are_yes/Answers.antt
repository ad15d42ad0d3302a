use Rattle.lay_cli.proofs.RunReportsLemmas.Judged.{run_reports_are_yes}
use Rattle.lay_cli.proofs.run_reports.laws.run_reports_are_yes.Goals as goal

pub returns : goal.returns
returns c = run_reports_are_yes c.run_reports_are_legal.ensures c.one_verdict.ensures c.one_styled_check.ensures c.runs_are_styled_beside_reports.ensures
