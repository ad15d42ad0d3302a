use Rattle.std.proofs.Common.{◌≡◌, ◌∷◌, ◌++◌, [], ◌⊎◌, ⊎_elim, ◌∙◌, Contains, List, ap, arith, length, refl, subst}
use Rattle.std.specs.List.{All}
use Rattle.std.specs.Vec.Iter.{into_iter_items}
use Rattle.std.proofs.lemmas.List.Elements.{All-contains_itself, All-head, All-nil, All-push, All-same, All-tail}
use Rattle.lay_cell_work.specs.Claims.{Claim}
use Rattle.lay_cell_work.specs.declared.claim_lists.outcome.Outcome.{Outcome}
use Rattle.lay_cell_work.specs.declared.claim_lists.outcome.Outcome.TheVariants as outcome
use Rattle.lay_pool.specs.Hands.{IsRefusedOf}
use Rattle.lay_pool.proofs.hand.Hand.deal.Goals as goal

-- what came back is still of the claims, where one more of them may have come back
refused_more : (claims : List Claim) (was now : List Outcome) (c : Claim)
    → All (IsRefusedOf claims) was → Contains claims c → (now ≡ was) ⊎ (now ≡ was ++ outcome.NoMemory c ∷ []) → All (IsRefusedOf claims) now
refused_more claims was now c all at own = ⊎_elim
    (λ (e : now ≡ was). All-same (IsRefusedOf claims) now was e all)
    (λ (e : now ≡ was ++ outcome.NoMemory c ∷ []). All-same (IsRefusedOf claims) now _ e (All-push (IsRefusedOf claims) was (outcome.NoMemory c) all (c, at, refl)))
    own

pub loop-claim-init : goal.loop-claim-init
loop-claim-init c =
    let claims = c.args.claims.claims in
    let gives = c.into_iter-claim-iterator.ensures.into_iter_gives in
    let left : into_iter_items c.into_iter-claim-iterator.result ≡ claims = gives.0 ∙ c.into_vec-claim-items.ensures.claims in
    let count = ap length left in
    let room = c.requires.room in
    let none = ap length room.0 in (
      (let same = ap length gives.0 in let has = gives.1 in let ok = c.into_vec-claim-items.result.ok in omega (arith, same, has, ok)),
      room.1,
      omega (arith, count, none),
      c.into_vec-claim-items.ensures.few,
      All-same (Contains claims) _ claims left (All-contains_itself claims),
      All-same (IsRefusedOf claims) _ [] room.0 (All-nil (IsRefusedOf claims)),
    )

pub loop-claim-preserved : goal.loop-claim-preserved
loop-claim-preserved c =
    let at = c.loop-claim in
    let was = at.invariant in
    let steps : into_iter_items at.claim-iterator ≡ c.in-Some.claim ∷ into_iter_items c.next.new.self = c.in-Some.ensures.steps.0 in
    let short = ap length steps in
    let more = c.take.ensures.len in
    let claims = c.args.claims.claims in
    let left = subst (All (Contains claims)) steps was.4 in (
      (let count = was.0 in let gone = c.in-Some.ensures.steps.1 in omega arith),
      (let room = was.1 in let capacity = c.take.ensures.capacity in omega arith),
      (let all = was.2 in omega arith),
      was.3,
      All-tail (Contains claims) c.in-Some.claim _ left,
      refused_more claims at.refused.items c.take.new.refused.items c.in-Some.claim was.5 (All-head (Contains claims) c.in-Some.claim _ left) c.take.ensures.own,
    )

pub returns-clause-refused : goal.returns-clause-refused
returns-clause-refused c = All-same (IsRefusedOf c.args.claims.claims) _ _ c.new.ensures c.loop-claim.invariant.5
