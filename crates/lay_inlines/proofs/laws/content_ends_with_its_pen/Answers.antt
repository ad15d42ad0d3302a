use Rattle.lay_inlines.proofs.RemovedSpaces.{content_ends_with_its_pen_lem}
use Rattle.lay_inlines.proofs.laws.content_ends_with_its_pen.Goals as goal

pub returns : goal.returns
returns c = content_ends_with_its_pen_lem
