use Rattle.lay_lines.proofs.Reaches.{room_means}
use Rattle.lay_lines.proofs.reach.Reach.leaves_room.Goals as goal

pub returns : goal.returns
returns c =
    room_means c.one_room.ensures c.args.line.now.frame c.args.line.now.top.0 c.args.line.now.stretches.now c.args.floats.now c.args.self.now c.args.width.0 _ _ _ c.requires.reach
    c.wide_plus.ensures c.wide_minus.ensures c.is_at_most.ensures
