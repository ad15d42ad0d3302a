-- There are no more outcomes than claims were gone through, and room for the others. What is left, and what came back, is of the claims.
use Rattle.std.proofs.Common.{◌≡◌, ◌≤◌, ◌+◌, length, vec_capacity, Contains}
use Rattle.std.specs.List.{All}
use Rattle.std.specs.Vec.Iter.{into_iter_items, into_iter_len}
use Rattle.lay_pool.specs.Hands.{IsRefusedOf}
use Rattle.lay_pool.proofs.hand.Hand.deal.Given as goal

abbrev pub invariant-loop-claim : goal.invariant-loop-claim
invariant-loop-claim l =
    (into_iter_len l.claim-iterator ≡ length (into_iter_items l.claim-iterator))
    × (length l.fn.claims.claims ≤ vec_capacity l.refused)
    × (length l.refused.items + length (into_iter_items l.claim-iterator) ≤ length l.fn.claims.claims)
    × (length l.fn.claims.claims ≤ 64)
    × All (Contains l.fn.claims.claims) (into_iter_items l.claim-iterator)
    × All (IsRefusedOf l.fn.claims.claims) l.refused.items
