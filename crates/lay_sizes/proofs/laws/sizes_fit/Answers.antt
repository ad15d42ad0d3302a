use Rattle.lay_sizes.proofs.SizesFit.{sizes_fit_lem}
use Rattle.lay_sizes.proofs.laws.sizes_fit.Goals as goal

pub returns : goal.returns
returns c = sizes_fit_lem
