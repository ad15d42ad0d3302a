use Rattle.lay_cli.proofs.OwnReports.{answered_yes}
use Rattle.lay_cli.proofs.laws.run_reports_are_answered_yes.Goals as goal

pub returns : goal.returns
returns c = answered_yes c.run_reports_are_yes.ensures
