use Rattle.std.proofs.Common.{◌<◌, length, sym, subst}
use Rattle.lay_flow.specs.declared.blocks.flow_box.FlowBox.{FlowBox}
use Rattle.lay_flow.proofs.BlocksLemmas.BoxTrees.{parent_before}
use Rattle.lay_flow.proofs.BlocksLemmas.FlowBoxFacts.{parent_in}
use Rattle.lay_flow.proofs.BlocksLemmas.IndexedBoxes.{box_read}
use Rattle.lay_flow.proofs.blocks.boxes.BoxAt.parent.Goals as goal

pub returns-clause-before : goal.returns-clause-before
returns-clause-before c positive =
    let b = box_read c.args.self.now.boxes.list.now c.args.self.now.k c.index-self-self.result c.args.self.now.within in
    subst (λ (b : FlowBox). b.parent < c.args.self.now.k) (sym b) (parent_before c.args.self.now.boxes.list.now c.args.self.now.boxes.are.is_tree.tree c.args.self.now.k positive c.args.self.now.within)

pub returns-clause-within : goal.returns-clause-within
returns-clause-within c =
    let b = box_read c.args.self.now.boxes.list.now c.args.self.now.k c.index-self-self.result c.args.self.now.within in
    subst (λ (b : FlowBox). b.parent < length c.args.self.now.boxes.list.now) (sym b) (parent_in c.args.self.now.boxes.list.now c.args.self.now.boxes.are.is_tree.tree c.args.self.now.k c.args.self.now.within)
