use Rattle.lay_flow.proofs.BlocksLemmas.BlockLayoutLaws.{some_block_layout_lem}
use Rattle.lay_flow.proofs.blocks.laws.some_block_layout.Goals as goal

pub returns : goal.returns
returns c = some_block_layout_lem
