use Rattle.lay_flow.proofs.BlocksLemmas.BlockLayoutLaws.{one_block_layout_lem}
use Rattle.lay_flow.proofs.blocks.laws.one_block_layout.Goals as goal

pub returns : goal.returns
returns c = one_block_layout_lem
