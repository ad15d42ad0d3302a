use Rattle.std.proofs.Common.{arith}
use Rattle.std.proofs.lemmas.Int.{ints, int_max_is, int_min_is}
use Rattle.lay_widths.proofs.float.shrink_to_fit.Goals as goal

pub returns-clause-below : goal.returns-clause-below
returns-clause-below c = (omega (arith, ints, int_max_is, int_min_is), omega (arith, ints, int_max_is, int_min_is))
