use Rattle.lay_core.proofs.CellWork.{works_work}
use Rattle.lay_core.proofs.ClaimSteps.{few_drawn, leaves}
use Rattle.lay_core.proofs.PartsSteps.{changes_of}
use Rattle.lay_core.proofs.ShownKept.{changes}
use Rattle.lay_core.specs.CoreLaws.ReachedCores.{claim_next}
use Rattle.lay_core.proofs.core_state.Core.claim_next.Goals as goal

pub invariant_of-self : goal.invariant_of-self
invariant_of-self c =
    let work = works_work _ _ (c.claims_work.ensures.next_claims _ _ c.claim_next-next.result c.claim_next-next.ensures.answers) in
    leaves _ _ _ c.self.invariant.0 c.self.invariant.1 c.self.invariant.2 c.claim_next-next.new.self work c.claim_next-next.ensures.draws c.sound.ensures
    (claim_next c.claim_next-next.result _ (changes _ _ c.claim_next-next.new.self work c.claim_next-next.ensures.answers))

pub returns-clause-answers : goal.returns-clause-answers
returns-clause-answers c =
    changes_of _ _ _ c.claim_next-next.new.self c.self.view_is (λ a b does. works_work a b (c.claims_work.ensures.next_claims a b c.claim_next-next.result does))
    c.claim_next-next.ensures.answers

pub returns-clause-draws : goal.returns-clause-draws
returns-clause-draws c = few_drawn _ _ c.claim_next-next.new.self c.self.view_is c.claim_next-next.ensures.draws
