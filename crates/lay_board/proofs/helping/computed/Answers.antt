use Rattle.std.proofs.Common.{◌≡◌, ◌∷◌, []}
use Rattle.std.proofs.Common.{ap, arith, length, length-append, ◌∙◌}
use Rattle.std.specs.Vec.Iter.{into_iter_items}
use Rattle.lay_board.proofs.helping.computed.Goals as goal

pub loop-claim-preserved : goal.loop-claim-preserved
loop-claim-preserved g c =
    let at = c.loop-claim in
    let was = at.invariant in
    let steps : into_iter_items at.claim-iterator ≡ c.in-Some.claim ∷ into_iter_items c.next.new.self = c.in-Some.ensures.steps.0 in
    let short = ap length steps in
    let pushed = ap length c.push_reserved.ensures.items ∙ length-append at.outcomes.items (c.outcome_of.result ∷ []) in (
      (let count = was.0 in let gone = c.in-Some.ensures.steps.1 in omega arith),
      (let room = was.1 in let capacity = c.push_reserved.ensures.capacity in omega arith),
      (let all = was.2 in omega arith),
      was.3,
    )
