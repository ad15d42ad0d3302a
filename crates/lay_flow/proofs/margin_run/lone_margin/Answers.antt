use Rattle.std.proofs.Common.{[]}
use Rattle.lay_flow.proofs.margin_run.lone_margin.Goals as goal

pub returns : goal.returns
returns c = c.with_margin.ensures [] c.no_margin.ensures
