use Rattle.std.proofs.Common.{◌∙◌, sym, arith}
use Rattle.lay_flow.proofs.LookAheadSteps.{opened_reading, opened_read, parts_is}
use Rattle.lay_flow.proofs.hypothetical_edge.open.Goals as goal
use Rattle.lay_flow.specs.Pass.LookAhead.{reading}

pub returns-clause-going : goal.returns-clause-going
returns-clause-going c plain from is reading =
    let adds = rw c.block-block.ensures.value at c.with_margin.ensures in
    let a = is.least in let b = is.most in let d = reading.begun in
    let edge = rw c.block-block.ensures.value at c.has_edge_top.ensures in
    opened_reading c.args.at.now.boxes.list.now c.args.at.now.boxes.are.is_tree.tree from is c.args.at.now.k c.args.at.now.within c.args.used.strut c.with_margin.result.strut reading c.with_margin.result.fits adds
    (parts_is c.args.at.now.boxes.list.now c.args.at.now.k (omega (arith, a, b, d)) ∙ sym edge ∙ plain)

pub returns-clause-ended : goal.returns-clause-ended
returns-clause-ended c parts from is reading =
    let adds = rw c.block-block.ensures.value at c.with_margin.ensures in
    let a = is.least in let b = is.most in let d = reading.begun in
    let edge = rw c.block-block.ensures.value at c.has_edge_top.ensures in
    opened_read c.args.at.now.boxes.list.now c.args.at.now.boxes.are.is_tree.tree from is c.args.at.now.k c.args.at.now.within c.args.used.strut c.with_margin.result.strut reading c.with_margin.result.fits adds
    (parts_is c.args.at.now.boxes.list.now c.args.at.now.k (omega (arith, a, b, d)) ∙ sym edge ∙ parts)
