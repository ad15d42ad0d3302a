use Rattle.std.proofs.Common.{arith}
use Rattle.std.proofs.lemmas.Int.{ints}
use Rattle.lay_abspos.proofs.following.right_follows.Goals as goal

pub returns-clause-equation : goal.returns-clause-equation
returns-clause-equation c = omega (arith, ints)
