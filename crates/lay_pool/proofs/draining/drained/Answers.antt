use Rattle.std.proofs.Common.{◌≡◌, ◌++◌, ◌∷◌, ap, arith, length, sym, subst, ◌∙◌}
use Rattle.std.specs.Vec.Iter.{into_iter_items}
use Rattle.lay_pool.proofs.OutcomesSoFar.{IsDrained, drained_more, is_at, noted_at}
use Rattle.lay_pool.proofs.draining.drained.Goals as goal

pub outcome_at-outcome-requires-clause-noted : goal.outcome_at-outcome-requires-clause-noted
outcome_at-outcome-requires-clause-noted g c =
    let at = c.loop-claim in
    let was = at.invariant.2 in
    let steps : into_iter_items at.claim-iterator ≡ c.in-Some.claim ∷ into_iter_items c.next.new.self = c.in-Some.ensures.steps.0 in
    noted_at c.args.claims.items c.in-Some.claim at.place at.notes.items
    (is_at c.args.claims.items at.yielded (into_iter_items c.next.new.self) c.in-Some.claim at.place (ap (λ xs. at.yielded ++ xs) (sym steps) ∙ was.all) was.place_is)
    was.noted

pub loop-claim-preserved : goal.loop-claim-preserved
loop-claim-preserved g c =
    let at = c.loop-claim in
    let was = at.invariant in
    let steps : into_iter_items at.claim-iterator ≡ c.in-Some.claim ∷ into_iter_items c.next.new.self = c.in-Some.ensures.steps.0 in (
      (let count = was.0 in let gone = c.in-Some.ensures.steps.1 in let short = ap length steps in omega arith),
      (let room = was.1 in let cap = c.push_reserved.ensures.capacity in omega arith),
      drained_more c.args.claims.items at.yielded (into_iter_items c.next.new.self) c.in-Some.claim at.place at.notes.items _ at.outcomes.items _ c.outcome_at-outcome.result
          (subst (λ left. IsDrained c.args.claims.items at.yielded left at.place at.notes.items at.outcomes.items) steps was.2)
          c.outcome_at-outcome.ensures.own c.push_reserved.ensures.items c.outcome_at-outcome.ensures.kept
          (let a = c.outcome_at-outcome.ensures.len in let b = at.notes.ok in let d = c.outcome_at-outcome.new.notes.ok in omega arith),
    )
