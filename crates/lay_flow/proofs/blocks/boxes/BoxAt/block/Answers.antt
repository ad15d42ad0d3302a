use Rattle.std.proofs.Common.{ap, sym, subst, ◌∙◌}
use Rattle.lay_flow.specs.declared.blocks.flow_box.FlowBox.{FlowBox}
use Rattle.lay_flow.specs.Blocks.BlockSizes.{BlockFits}
use Rattle.lay_flow.specs.Blocks.MarginRuns.{block_of}
use Rattle.lay_flow.proofs.BlocksLemmas.FlowBoxFacts.{block_fits}
use Rattle.lay_flow.proofs.BlocksLemmas.IndexedBoxes.{box_read}
use Rattle.lay_flow.proofs.blocks.boxes.BoxAt.block.Goals as goal

pub returns-clause-fits : goal.returns-clause-fits
returns-clause-fits c =
    let b = box_read c.args.self.now.boxes.list.now c.args.self.now.k c.index-self-self.result c.args.self.now.within in
    subst BlockFits (sym (c.block.ensures ∙ ap (λ (b : FlowBox). block_of b.kind) b)) (block_fits c.args.self.now.boxes.list.now c.args.self.now.boxes.are c.args.self.now.k c.args.self.now.within)
