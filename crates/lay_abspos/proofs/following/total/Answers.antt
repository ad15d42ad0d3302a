use Rattle.std.proofs.Common.{arith}
use Rattle.std.proofs.lemmas.Int.{ints}
use Rattle.lay_abspos.proofs.following.total.Goals as goal

pub returns-clause-value : goal.returns-clause-value
returns-clause-value c = omega (arith, ints)

pub returns-clause-below : goal.returns-clause-below
returns-clause-below c = (omega (arith, ints), omega (arith, ints))
