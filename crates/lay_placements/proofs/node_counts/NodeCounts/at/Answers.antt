use Rattle.std.proofs.Common.{◌∙◌, sym}
use Rattle.lay_placements.proofs.NodeCountSteps.{in_table, outside}
use Rattle.lay_placements.proofs.node_counts.NodeCounts.at.Goals as goal

pub returns-in-Some : goal.returns-in-Some
returns-in-Some c =
    let counts = c.args.self.now in
    let there = c.in-Some.ensures.there in
    c.index.ensures ∙ sym (in_table counts.others counts.first counts.table.items c.in-Some.place c.args.id c.index.result.now there.0 there.1)

pub returns-in-None : goal.returns-in-None
returns-in-None c =
    let counts = c.args.self.now in
    c.counted_apart.ensures ∙ sym (outside counts.others counts.first counts.table.items c.args.id (c.place.ensures.outside c.in-None.is))
