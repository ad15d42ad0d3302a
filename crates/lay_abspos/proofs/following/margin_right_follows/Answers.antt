use Rattle.std.proofs.Common.{arith}
use Rattle.std.proofs.lemmas.Int.{ints}
use Rattle.lay_abspos.proofs.following.margin_right_follows.Goals as goal

pub returns-clause-filled : goal.returns-clause-filled
returns-clause-filled c = omega (arith, ints)
