use Rattle.std.proofs.Common.{subst, Ok}
use Rattle.lay_core.specs.Claims.{ClaimsSome}
use Rattle.lay_board.proofs.Guests.{idle_grants, quiet, unchanged}
use Rattle.lay_board.proofs.batches.granted.Goals as goal

pub returns-in_err-list-clause-quiet : goal.returns-in_err-list-clause-quiet
returns-in_err-list-clause-quiet c = unchanged _

pub returns-in_err-claim_some-clause-quiet : goal.returns-in_err-claim_some-clause-quiet
returns-in_err-claim_some-clause-quiet c = let a = c.claim_some.ensures in quiet _ _ _ a.answers a.draws

pub returns-in-None-clause-quiet : goal.returns-in-None-clause-quiet
returns-in-None-clause-quiet c = let a = c.claim_some.ensures in quiet _ _ _ a.answers a.draws

pub returns-in-Some-clause-quiet : goal.returns-in-Some-clause-quiet
returns-in-Some-clause-quiet c = let a = c.claim_some.ensures in quiet _ _ _ a.answers a.draws

pub returns-in-Some-clause-grants : goal.returns-in-Some-clause-grants
returns-in-Some-clause-grants c =
    idle_grants _ _ _ _ _
    (subst (λ o. ClaimsSome c.args.core.now c.args.limit c.claim_some.new.list.claims (Ok o) c.claim_some.new.self) c.in-Some.is c.in_ok-claim_some.ensures.answers)
