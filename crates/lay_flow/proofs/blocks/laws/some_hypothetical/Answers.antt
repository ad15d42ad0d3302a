use Rattle.lay_flow.proofs.BlocksLemmas.Hypotheticals.{some_hypothetical_lem}
use Rattle.lay_flow.proofs.blocks.laws.some_hypothetical.Goals as goal

pub returns : goal.returns
returns c = some_hypothetical_lem
