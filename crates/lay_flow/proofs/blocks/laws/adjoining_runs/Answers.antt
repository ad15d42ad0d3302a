use Rattle.lay_flow.proofs.BlocksLemmas.RunsAdjoin.{adjoining_runs_lem}
use Rattle.lay_flow.proofs.blocks.laws.adjoining_runs.Goals as goal

pub returns : goal.returns
returns c = adjoining_runs_lem
