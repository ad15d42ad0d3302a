use Rattle.std.proofs.Common.{inl}
use Rattle.lay_core.proofs.CellWork.{finish_work}
use Rattle.lay_core.proofs.ClaimSteps.{finish_draws, leaves}
use Rattle.lay_core.proofs.PartsSteps.{changes_of}
use Rattle.lay_core.proofs.ShownKept.{changes}
use Rattle.lay_core.specs.CoreLaws.ReachedCores.{finish}
use Rattle.lay_core.proofs.core_state.Core.finish.Goals as goal

pub invariant_of-self : goal.invariant_of-self
invariant_of-self c =
    let work = finish_work _ _ _ _ c.finish-finished.ensures in
    leaves _ _ _ c.self.invariant.0 c.self.invariant.1 c.self.invariant.2 c.finish-finished.new.self work
    (inl (finish_draws _ _ _ _ c.finish-finished.ensures)) c.sound.ensures
    (finish c.args.done c.finish-finished.result _ (changes _ _ c.finish-finished.new.self work c.finish-finished.ensures))

pub returns : goal.returns
returns c = changes_of _ _ _ c.finish-finished.new.self c.self.view_is (λ a b does. finish_work a c.args.done c.finish-finished.result b does) c.finish-finished.ensures
