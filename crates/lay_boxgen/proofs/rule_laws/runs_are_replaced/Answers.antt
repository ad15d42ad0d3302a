use Rattle.lay_boxgen.proofs.Replaced.{runs_are_replaced}
use Rattle.lay_boxgen.proofs.rule_laws.runs_are_replaced.Goals as goal

pub returns : goal.returns
returns c = runs_are_replaced
