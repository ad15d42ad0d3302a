use Rattle.lay_lines.proofs.Reaches.{reach_is}
use Rattle.lay_lines.proofs.reach.Reach.in_room.Goals as goal

pub to-pen-requires-clause-fits : goal.to-pen-requires-clause-fits
to-pen-requires-clause-fits c = c.requires.rooms c.args.line.now.top.0 c.room.result.0.0 c.room.result.1.0 c.room.ensures.room

pub returns-else-are_same-clause-reach : goal.returns-else-are_same-clause-reach
returns-else-are_same-clause-reach c =
    reach_is c.args.line.now.frame c.args.line.now.top.0 c.args.line.now.stretches.now c.args.floats.now c.args.self.count c.room.result.0 c.room.result.1 c.to-pen.result c.requires.rooms
    c.room.ensures.room c.room.ensures.left_fits c.room.ensures.right_fits c.requires.count c.to-pen.ensures
