use Rattle.std.proofs.Common.{◌↔◌, IsTrue, subst}
use Rattle.lay_lines.specs.Meeting.{HasRoom}
use Rattle.lay_lines.proofs.reach.Reach.has_room.Goals as goal

pub returns : goal.returns
returns c =
    subst (λ n. IsTrue c.leaves_room.result ↔ HasRoom c.args.line.now.frame c.args.line.now.top.0 c.args.line.now.stretches.now n c.args.floats.now c.args.width.0) c.in_room-here.ensures.count
    c.leaves_room.ensures
