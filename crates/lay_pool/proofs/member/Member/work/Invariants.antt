-- What was found so far is of the claims at its places.
use Rattle.std.specs.List.{All}
use Rattle.lay_pool.specs.Finds.{IsFoundOf}
use Rattle.lay_pool.proofs.member.Member.work.Given as goal

abbrev pub invariant-loop-turn : goal.invariant-loop-turn
invariant-loop-turn g l = All (IsFoundOf l.claims) l.found.items
