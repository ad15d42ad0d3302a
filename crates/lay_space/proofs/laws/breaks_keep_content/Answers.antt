use Rattle.lay_space.proofs.KeptContent.{breaks_keep_content_lem}
use Rattle.lay_space.proofs.laws.breaks_keep_content.Goals as goal

pub returns : goal.returns
returns c = breaks_keep_content_lem
