-- There are as many outcomes as claims were gone through, and room for the others.
use Rattle.std.proofs.Common.{◌≡◌, ◌≤◌, ◌+◌, length, vec_capacity}
use Rattle.std.specs.Vec.Iter.{into_iter_items, into_iter_len}
use Rattle.lay_board.proofs.helping.computed.Given as goal

abbrev pub invariant-loop-claim : goal.invariant-loop-claim
invariant-loop-claim g l =
    (into_iter_len l.claim-iterator ≡ length (into_iter_items l.claim-iterator))
    × (length l.fn.claims.claims ≤ vec_capacity l.outcomes)
    × (length l.outcomes.items + length (into_iter_items l.claim-iterator) ≡ length l.fn.claims.claims)
    × (length l.fn.claims.claims ≤ 64)
