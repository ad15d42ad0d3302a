use Rattle.lay_cli.proofs.Summaries.{summaries_come_of_numbers}
use Rattle.lay_cli.proofs.laws.summaries_come_of_numbers.Goals as goal

pub returns : goal.returns
returns c = summaries_come_of_numbers c.generated_runs_come_to_one.ensures c.generated_nodes_stay.ensures c.last_tree.ensures c.one_solution.ensures
