use Rattle.std.proofs.Common.{inl}
use Rattle.lay_core.proofs.CellWork.{works_work}
use Rattle.lay_core.proofs.ClaimSteps.{leaves, none_drawn}
use Rattle.lay_core.proofs.PartsSteps.{changes_of}
use Rattle.lay_core.proofs.ShownKept.{changes}
use Rattle.lay_core.specs.CoreLaws.ReachedCores.{finish_all}
use Rattle.lay_core.proofs.core_state.Core.finish_all.Goals as goal

pub invariant_of-self : goal.invariant_of-self
invariant_of-self c =
    let work = works_work _ _ (c.claims_work.ensures.outcomes _ _ c.args.outcomes c.finish_all-tally.result c.finish_all-tally.ensures.answers) in
    leaves _ _ _ c.self.invariant.0 c.self.invariant.1 c.self.invariant.2 c.finish_all-tally.new.self work
    (inl c.finish_all-tally.ensures.draws) c.sound.ensures
    (finish_all c.args.outcomes c.finish_all-tally.result _ (changes _ _ c.finish_all-tally.new.self work c.finish_all-tally.ensures.answers))

pub returns-clause-answers : goal.returns-clause-answers
returns-clause-answers c =
    changes_of _ _ _ c.finish_all-tally.new.self c.self.view_is
    (λ a b does. works_work a b (c.claims_work.ensures.outcomes a b c.args.outcomes c.finish_all-tally.result does)) c.finish_all-tally.ensures.answers

pub returns-clause-draws : goal.returns-clause-draws
returns-clause-draws c = none_drawn _ _ c.finish_all-tally.new.self c.self.view_is c.finish_all-tally.ensures.draws
