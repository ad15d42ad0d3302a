use Rattle.lay_space.proofs.BreakPlaces.{lines_break_where_they_may_lem}
use Rattle.lay_space.proofs.laws.lines_break_where_they_may.Goals as goal

pub returns : goal.returns
returns c = lines_break_where_they_may_lem
