use Rattle.std.proofs.Common.{length}
use Rattle.lay_lines.specs.Meeting.{state_of}
use Rattle.lay_lines.proofs.taking.meet_after.Goals as goal

pub in_room-requires-clause-rooms : goal.in_room-requires-clause-rooms
in_room-requires-clause-rooms c =
    c.requires.floats.rooms (length c.args.list.now) (state_of c.meet_all.new.floats c.meet_all.new.met) c.in_ok-meet_all.ensures.meets
