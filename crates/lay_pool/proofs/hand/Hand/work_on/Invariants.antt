-- What stands behind the outcomes that were there comes of claims, of no more than there were turns.
use Rattle.std.proofs.Common.{◌≤◌, vec_len}
use Rattle.lay_pool.specs.Hands.{AddsWork}
use Rattle.lay_pool.proofs.hand.Hand.work_on.Given as goal

abbrev pub invariant-loop-turn : goal.invariant-loop-turn
invariant-loop-turn g l = (vec_len l.outcomes ≤ 64) × AddsWork l._turn l.fn.held l.outcomes.items
