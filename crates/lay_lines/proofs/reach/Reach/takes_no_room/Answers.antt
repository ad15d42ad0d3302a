use Rattle.lay_lines.proofs.Reaches.{no_room_means}
use Rattle.lay_lines.proofs.reach.Reach.takes_no_room.Goals as goal

pub returns : goal.returns
returns c =
    no_room_means c.one_room.ensures c.args.line.now.frame c.args.line.now.top.0 c.args.line.now.stretches.now c.args.floats.now c.args.self.now c.args.before.now _ c.requires.reach c.requires.before
    c.requires.count c.is_at_most.ensures
