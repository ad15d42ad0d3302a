use Rattle.lay_json.proofs.Counted.{nodes_are_counted_lem}
use Rattle.lay_json.proofs.laws.nodes_are_counted.Goals as goal

pub returns : goal.returns
returns c = nodes_are_counted_lem
