use Rattle.std.proofs.Common.{inl}
use Rattle.lay_core.proofs.CellWork.{back_work}
use Rattle.lay_core.proofs.ClaimSteps.{back_draws, leaves, none_drawn}
use Rattle.lay_core.proofs.PartsSteps.{changes_of}
use Rattle.lay_core.proofs.ShownKept.{changes}
use Rattle.lay_core.specs.CoreLaws.ReachedCores.{give_back}
use Rattle.lay_core.proofs.core_state.Core.give_back.Goals as goal

pub invariant_of-self : goal.invariant_of-self
invariant_of-self c =
    let work = back_work _ _ _ _ _ c.give_back-released.ensures in
    leaves _ _ _ c.self.invariant.0 c.self.invariant.1 c.self.invariant.2 c.give_back-released.new.self work
    (inl (back_draws _ _ _ _ _ c.give_back-released.ensures)) c.sound.ensures
    (give_back c.args.claim.key c.args.claim.number c.give_back-released.result _ (changes _ _ c.give_back-released.new.self work c.give_back-released.ensures))

pub returns-clause-answers : goal.returns-clause-answers
returns-clause-answers c =
    changes_of _ _ _ c.give_back-released.new.self c.self.view_is
    (λ a b does. back_work a c.args.claim.key c.args.claim.number c.give_back-released.result b does) c.give_back-released.ensures

pub returns-clause-draws : goal.returns-clause-draws
returns-clause-draws c = none_drawn _ _ c.give_back-released.new.self c.self.view_is (back_draws _ _ _ _ _ c.give_back-released.ensures)
