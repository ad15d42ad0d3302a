use Rattle.std.proofs.Common.{arith}
use Rattle.std.proofs.lemmas.Int.{ints}
use Rattle.lay_abspos.proofs.absolute.width_follows.Goals as goal

pub returns-clause-left : goal.returns-clause-left
returns-clause-left c = omega (arith, ints)

pub returns-then-room-lt0-clause-room : goal.returns-then-room-lt0-clause-room
returns-then-room-lt0-clause-room c = λ room. absurd (omega (arith, ints))
