use Rattle.lay_style.proofs.Cleared.{sets_one_lem}
use Rattle.lay_style.proofs.laws.sets_one.Goals as goal

pub returns : goal.returns
returns c = sets_one_lem
