use Rattle.lay_core.proofs.CellWork.{works_work}
use Rattle.lay_core.proofs.ClaimSteps.{few_drawn, leaves}
use Rattle.lay_core.proofs.PartsSteps.{changes_of}
use Rattle.lay_core.proofs.ShownKept.{changes}
use Rattle.lay_core.specs.CoreLaws.ReachedCores.{claim_some}
use Rattle.lay_core.proofs.core_state.Core.claim_some.Goals as goal

pub invariant_of-self : goal.invariant_of-self
invariant_of-self c =
    let work = works_work _ _ (c.claims_work.ensures.batches _ _ c.args.limit _ c.claim_some-idle.result c.claim_some-idle.ensures.answers) in
    leaves _ _ _ c.self.invariant.0 c.self.invariant.1 c.self.invariant.2 c.claim_some-idle.new.self work c.claim_some-idle.ensures.draws c.sound.ensures
    (claim_some c.args.limit _ c.claim_some-idle.result _ (changes _ _ c.claim_some-idle.new.self work c.claim_some-idle.ensures.answers))

pub returns-clause-answers : goal.returns-clause-answers
returns-clause-answers c =
    changes_of _ _ _ c.claim_some-idle.new.self c.self.view_is
    (λ a b does. works_work a b (c.claims_work.ensures.batches a b c.args.limit _ c.claim_some-idle.result does)) c.claim_some-idle.ensures.answers

pub returns-clause-draws : goal.returns-clause-draws
returns-clause-draws c = few_drawn _ _ c.claim_some-idle.new.self c.self.view_is c.claim_some-idle.ensures.draws
