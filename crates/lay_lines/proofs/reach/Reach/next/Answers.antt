use Rattle.std.proofs.Common.{get_or}
use Rattle.std.proofs.lemmas.Option.{slice_get-get_or}
use Rattle.lay_lines.proofs.Reaches.{next_fits, next_reach}
use Rattle.lay_lines.proofs.reach.Reach.next.Goals as goal

pub past-requires : goal.past-requires
past-requires c =
    let ss = c.args.line.now.stretches.now in
    let s = get_or ss c.args.self.count c.index-line-self.result in
    next_fits c.args.line.now.frame c.args.line.now.top.0 ss c.args.floats.now c.args.self s c.requires.rooms c.requires.reach
    (slice_get-get_or ss c.args.self.count c.index-line-self.result c.requires.some)

pub returns-clause-reach : goal.returns-clause-reach
returns-clause-reach c =
    let ss = c.args.line.now.stretches.now in
    let s = get_or ss c.args.self.count c.index-line-self.result in
    next_reach c.args.line.now.frame c.args.line.now.top.0 ss c.args.floats.now c.args.self s c.past.result c.requires.rooms c.requires.reach
    (slice_get-get_or ss c.args.self.count c.index-line-self.result c.requires.some) c.past.ensures
