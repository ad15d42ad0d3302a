use Rattle.lay_space.proofs.BreakSides.{breaks_stand_between_lem}
use Rattle.lay_space.proofs.laws.breaks_stand_between.Goals as goal

pub returns : goal.returns
returns c = breaks_stand_between_lem
