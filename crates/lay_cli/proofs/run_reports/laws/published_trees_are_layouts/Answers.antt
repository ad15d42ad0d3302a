use Rattle.lay_cli.proofs.RunReportsLemmas.Runs.{published_trees_are_layouts}
use Rattle.lay_cli.proofs.run_reports.laws.published_trees_are_layouts.Goals as goal

pub returns : goal.returns
returns c = published_trees_are_layouts c.one_solution.ensures
