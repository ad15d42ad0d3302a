-- The outcomes of the claims that were gone through are there, and what is noted is still of the claims at its places.
use Rattle.std.proofs.Common.{◌≡◌, ◌≤◌, vec_len, vec_capacity, length}
use Rattle.std.specs.Vec.Iter.{into_iter_items, into_iter_len}
use Rattle.lay_pool.proofs.OutcomesSoFar.{IsDrained}
use Rattle.lay_pool.proofs.draining.drained.Given as goal

abbrev pub invariant-loop-claim : goal.invariant-loop-claim
invariant-loop-claim g l =
    (into_iter_len l.claim-iterator ≡ length (into_iter_items l.claim-iterator))
    × (vec_len l.fn.claims ≤ vec_capacity l.outcomes)
    × IsDrained l.fn.claims.items l.yielded (into_iter_items l.claim-iterator) l.place l.notes.items l.outcomes.items
