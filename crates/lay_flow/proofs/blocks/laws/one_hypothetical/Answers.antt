use Rattle.lay_flow.proofs.BlocksLemmas.Hypotheticals.{one_hypothetical_lem}
use Rattle.lay_flow.proofs.blocks.laws.one_hypothetical.Goals as goal

pub returns : goal.returns
returns c = one_hypothetical_lem
