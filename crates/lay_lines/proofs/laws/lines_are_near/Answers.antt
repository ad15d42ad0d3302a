use Rattle.lay_lines.proofs.LinesWithin.{lines_are_near_lem}
use Rattle.lay_lines.proofs.laws.lines_are_near.Goals as goal

pub returns : goal.returns
returns c = lines_are_near_lem c.place_within.ensures
