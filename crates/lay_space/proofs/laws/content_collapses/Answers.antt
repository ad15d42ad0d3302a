use Rattle.lay_space.proofs.ProcessedContent.{content_collapses_lem}
use Rattle.lay_space.proofs.laws.content_collapses.Goals as goal

pub returns : goal.returns
returns c = content_collapses_lem
