-- There are as many as were made.
use Rattle.std.proofs.Common.{◌≡◌, vec_len}
use Rattle.lay_pool.proofs.hand.hands.Given as goal

abbrev pub invariant-loop-hand : goal.invariant-loop-hand
invariant-loop-hand l = vec_len l.hands ≡ l._hand
