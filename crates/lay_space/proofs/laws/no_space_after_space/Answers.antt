use Rattle.lay_space.proofs.Collapsed.{no_space_after_space_lem}
use Rattle.lay_space.proofs.laws.no_space_after_space.Goals as goal

pub returns : goal.returns
returns c = no_space_after_space_lem
