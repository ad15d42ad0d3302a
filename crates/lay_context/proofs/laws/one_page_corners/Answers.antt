use Rattle.lay_context.proofs.OneCorners.{one_page_corners_lem}
use Rattle.lay_context.proofs.laws.one_page_corners.Goals as goal

pub returns : goal.returns
returns c = one_page_corners_lem
