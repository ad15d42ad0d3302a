use Rattle.lay_cli.proofs.HitLaws.{one_hit_report}
use Rattle.lay_cli.proofs.laws.one_hit_report.Goals as goal

pub returns : goal.returns
returns c = one_hit_report c.one_solution.ensures c.one_style_column.ensures
