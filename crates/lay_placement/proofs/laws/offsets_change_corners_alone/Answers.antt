use Rattle.lay_placement.proofs.OffsetLaw.{offsets_lem}
use Rattle.lay_placement.proofs.laws.offsets_change_corners_alone.Goals as goal

pub returns : goal.returns
returns c = offsets_lem
