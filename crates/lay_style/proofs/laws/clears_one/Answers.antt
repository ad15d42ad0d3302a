use Rattle.lay_style.proofs.Cleared.{clears_one_lem}
use Rattle.lay_style.proofs.laws.clears_one.Goals as goal

pub returns : goal.returns
returns c = clears_one_lem
