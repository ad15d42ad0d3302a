use Rattle.lay_cli.proofs.RunReportsLemmas.Runs.{reached_trees_are_layouts}
use Rattle.lay_cli.proofs.run_reports.laws.reached_trees_are_layouts.Goals as goal

pub returns : goal.returns
returns c = reached_trees_are_layouts c.one_solution.ensures c.versions_are_documents.ensures
