use Rattle.std.proofs.Common.{zero, arith}
use Rattle.lay_lines.proofs.Reaches.{reach_is}
use Rattle.lay_lines.proofs.reach.Reach.first.Goals as goal

pub blank-requires-clause-fits : goal.blank-requires-clause-fits
blank-requires-clause-fits c = (c.requires.rooms c.args.line.now.top.0 c.room.result.0.0 c.room.result.1.0 c.room.ensures.room).blank_fits

pub returns-clause-reach : goal.returns-clause-reach
returns-clause-reach c =
    reach_is c.args.line.now.frame c.args.line.now.top.0 c.args.line.now.stretches.now c.args.floats.now zero c.room.result.0 c.room.result.1 c.blank.result c.requires.rooms
    c.room.ensures.room c.room.ensures.left_fits c.room.ensures.right_fits (omega arith) c.blank.ensures
