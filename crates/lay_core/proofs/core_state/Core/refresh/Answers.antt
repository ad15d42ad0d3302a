use Rattle.std.proofs.Common.{refl}
use Rattle.lay_core.proofs.Kept.{publish_room}
use Rattle.lay_core.proofs.CoreLawsLemmas.LeadsOn.{leads_on}
use Rattle.lay_core.proofs.PartsSteps.{behind_of, may_settle_of, on_err, on_ok, refresh_called, refresh_leaves, refreshes_of, settled_numbers}
use Rattle.lay_core.proofs.core_state.Core.refresh.Goals as goal

pub refreshed-refreshed-requires-clause-room : goal.refreshed-refreshed-requires-clause-room
refreshed-refreshed-requires-clause-room c = λ other. publish_room _ _ _ c.self.invariant.0 other _ refl

pub invariant_of-self : goal.invariant_of-self
invariant_of-self c =
    let few = rw (← c.self.view_is) at c.requires.draws in
    let kept = refresh_leaves c.refreshed-refreshed.result _ _ _ c.self.invariant.0 c.refreshed-refreshed.new.cells c.refreshed-refreshed.new.history.items
    c.refreshed-refreshed.new.trees.items c.refreshed-refreshed.ensures.ok c.refreshed-refreshed.ensures.err c.sound.ensures in
    rw (c.refreshed-refreshed.ensures.capacity) (
      kept,
      settled_numbers _ _ _ _ c.self.invariant.0 few c.refreshed-refreshed.ensures.draws,
      leads_on _ _ c.self.invariant.2
          (refresh_called c.refreshed-refreshed.result _ c.refreshed-refreshed.new.cells c.refreshed-refreshed.new.history.items
          c.refreshed-refreshed.new.trees.items c.refreshed-refreshed.ensures.ok c.refreshed-refreshed.ensures.err) kept.is_core,
    )

pub returns-clause-ok : goal.returns-clause-ok
returns-clause-ok c =
    on_ok c.refreshed-refreshed.result _ _
    (refreshes_of _ _ c.self.view_is c.refreshed-refreshed.new.cells c.refreshed-refreshed.new.history.items c.refreshed-refreshed.new.trees.items)
    c.refreshed-refreshed.ensures.ok

pub returns-clause-err : goal.returns-clause-err
returns-clause-err c =
    on_err c.refreshed-refreshed.result _ _
    (may_settle_of _ _ c.self.view_is c.refreshed-refreshed.new.cells c.refreshed-refreshed.new.history.items c.refreshed-refreshed.new.trees.items)
    c.refreshed-refreshed.ensures.err

pub returns-clause-cause : goal.returns-clause-cause
returns-clause-cause c =
    on_err c.refreshed-refreshed.result _ _ (behind_of _ _ _ _ c.self.view_is c.self.invariant.0) c.refreshed-refreshed.ensures.cause
