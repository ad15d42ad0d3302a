use Rattle.lay_sizes.proofs.OneSizes.{one_box_sizes_lem}
use Rattle.lay_sizes.proofs.laws.one_box_sizes.Goals as goal

pub returns : goal.returns
returns c = one_box_sizes_lem
