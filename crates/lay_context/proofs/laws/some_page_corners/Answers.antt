use Rattle.lay_context.proofs.SomeCorners.{some_page_corners_lem}
use Rattle.lay_context.proofs.laws.some_page_corners.Goals as goal

pub returns : goal.returns
returns c = some_page_corners_lem
