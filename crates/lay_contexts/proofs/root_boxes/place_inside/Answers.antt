use Rattle.std.proofs.Common.{rules, ◌≡◌, arith}
use Rattle.lay_contexts.specs.FormattingBoxes.{rank}
use Rattle.lay_contexts.proofs.RootBoxes.{rank_low}
use Rattle.lay_contexts.proofs.root_boxes.place_inside.Goals as goal

pub returns-clause-low : goal.returns-clause-low
returns-clause-low c =
    let homes = c.args.parting.now.homes in
    let is : c.rank.result ≡ rank homes c.args.p = search rules in
    let low = rank_low homes c.args.p in
    omega (arith, is, low)
