use Rattle.lay_core.proofs.CellWork.{works_work}
use Rattle.lay_core.proofs.ClaimSteps.{few_drawn, leaves}
use Rattle.lay_core.proofs.PartsSteps.{changes_of}
use Rattle.lay_core.proofs.ShownKept.{changes}
use Rattle.lay_core.specs.CoreLaws.ReachedCores.{claim}
use Rattle.lay_core.proofs.core_state.Core.claim.Goals as goal

pub invariant_of-self : goal.invariant_of-self
invariant_of-self c =
    let work = works_work _ _ (c.claims_work.ensures.claims _ _ c.args.key c.claim-answer.result c.claim-answer.ensures.answers) in
    leaves _ _ _ c.self.invariant.0 c.self.invariant.1 c.self.invariant.2 c.claim-answer.new.self work c.claim-answer.ensures.draws c.sound.ensures
    (claim c.args.key c.claim-answer.result _ (changes _ _ c.claim-answer.new.self work c.claim-answer.ensures.answers))

pub returns-clause-answers : goal.returns-clause-answers
returns-clause-answers c =
    changes_of _ _ _ c.claim-answer.new.self c.self.view_is (λ a b does. works_work a b (c.claims_work.ensures.claims a b c.args.key c.claim-answer.result does))
    c.claim-answer.ensures.answers

pub returns-clause-draws : goal.returns-clause-draws
returns-clause-draws c = few_drawn _ _ c.claim-answer.new.self c.self.view_is c.claim-answer.ensures.draws
