use Rattle.lay_grid.proofs.AutomaticLemmas.Room.{bounds_have_room_lem}
use Rattle.lay_grid.proofs.automatic.laws.bounds_have_room.Goals as goal

pub returns : goal.returns
returns c = bounds_have_room_lem
