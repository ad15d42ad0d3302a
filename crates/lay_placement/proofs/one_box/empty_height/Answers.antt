use Rattle.std.proofs.Common.{pos, ap, sym, subst, ◌∙◌}
use Rattle.lay_flow.specs.declared.blocks.block.Block.{Block}
use Rattle.lay_flow.specs.Blocks.BlockPositions.{border_height}
use Rattle.lay_flow.specs.Blocks.BlockSizes.{BlockFits}
use Rattle.lay_placement.proofs.EmptyBlocks.{empty_fits, no_content}
use Rattle.lay_placement.proofs.one_box.empty_height.Goals as goal

pub invariant_of-standing-clause-fits : goal.invariant_of-standing-clause-fits
invariant_of-standing-clause-fits c = subst BlockFits (sym c.empty_block-block.ensures) (empty_fits c.args.sizes c.args.height c.requires.sizes c.requires.height)

pub returns-clause-value : goal.returns-clause-value
returns-clause-value c =
    let made : Block = c.empty_block-block.result in
    let is = c.root_height.ensures.value ∙ ap (border_height made (pos 0)) (no_content made.edge_top.0) ∙ ap (λ (b : Block). border_height b (pos 0) (pos 0)) c.empty_block-block.ensures in
    λ n. record { 0 = is n }
