use Rattle.lay_flow.proofs.BlocksLemmas.ThroughChildren.{collapsed_through_lem}
use Rattle.lay_flow.proofs.blocks.laws.collapsed_through.Goals as goal

pub returns : goal.returns
returns c = collapsed_through_lem
