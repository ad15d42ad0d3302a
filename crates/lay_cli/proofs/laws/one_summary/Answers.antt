use Rattle.lay_cli.proofs.Summaries.{one_summary}
use Rattle.lay_cli.proofs.laws.one_summary.Goals as goal

pub returns : goal.returns
returns c = one_summary
