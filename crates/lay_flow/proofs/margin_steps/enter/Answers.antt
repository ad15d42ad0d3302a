use Rattle.std.proofs.Common.{◌∙◌, sym}
use Rattle.lay_flow.specs.Pass.Known.{placing_of}
use Rattle.lay_flow.specs.Pass.Bounds.{state_of}
use Rattle.lay_flow.proofs.LookAheadSteps.{parts_is}
use Rattle.lay_flow.proofs.PassSteps.{knows_opened}
use Rattle.lay_flow.proofs.margin_steps.enter.Goals as goal

pub open_parting-requires-clause-parting : goal.open_parting-requires-clause-parting
open_parting-requires-clause-parting c =
    parts_is c.args.child.now.at.boxes.list.now c.args.child.now.at.k c.args.child.now.positive ∙ sym (rw c.block-block.ensures.value at c.if-has_edge_top.ensures)

pub returns-else-has_edge_top : goal.returns-else-has_edge_top
returns-else-has_edge_top c =
    let at = c.args.child.now.at in let positive = c.args.child.now.positive in
    let plain = parts_is at.boxes.list.now at.k positive ∙ sym (rw c.block-block.ensures.value at c.if-has_edge_top.ensures) in
    record {
      places = c.requires.places;
      are = c.requires.are;
      knows = knows_opened at.boxes.list.now at.boxes.are.is_tree.tree (state_of c.args.flow.now) (placing_of c.args.flow.now.placing c.requires.places) at.k c.with_margin-flow.result.strut
          positive at.within plain c.requires.ready c.with_margin-flow.result.fits (rw c.block-block.ensures.value at c.with_margin-flow.ensures);
    }
